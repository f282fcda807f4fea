-- Which faults stand in an opening and in ordinary statements, and where.
use Rattle.std.specs.Prelude.{◌≡◌, ◌⊎◌, ℕ, ◌<◌, List, [], ◌∷◌, ◌++◌, map, length, Option, Some, None}
use Rattle.std.specs.List.{Any, Contains, zip}
use Rattle.ent_value.specs.Value.{kind_of}
use Rattle.ent_value.specs.declared.value.Kind.{Kind}
use Rattle.ent_value.specs.declared.value.Kind.TheVariants as kinds
use Rattle.ent_tree.specs.declared.declaration.Create.{Create}
use Rattle.ent_tree.specs.declared.declaration.Opening.{Opening}
use Rattle.ent_tree.specs.declared.declaration.OpeningRow.{OpeningRow}
use Rattle.ent_tree.specs.declared.operand.ColumnReference.{ColumnReference}
use Rattle.ent_tree.specs.declared.operand.Expression.{Expression}
use Rattle.ent_tree.specs.declared.operand.Expression.TheVariants.{Single, Sum, Difference}
use Rattle.ent_tree.specs.declared.operand.Identifier.{Identifier}
use Rattle.ent_tree.specs.declared.operand.Operand.{Operand}
use Rattle.ent_tree.specs.declared.operand.Operand.TheVariants as operands
use Rattle.ent_tree.specs.declared.operand.Test.{Test}
use Rattle.ent_tree.specs.declared.operand.ValueSpecification.{ValueSpecification}
use Rattle.ent_tree.specs.declared.operand.ValueSpecification.TheVariants as specifications
use Rattle.ent_tree.specs.declared.select.Items.{Items}
use Rattle.ent_tree.specs.declared.select.Items.TheVariants as items
use Rattle.ent_tree.specs.declared.select.Select.{Select}
use Rattle.ent_tree.specs.declared.select.Source.{Source}
use Rattle.ent_tree.specs.declared.statement.Assignment.{Assignment}
use Rattle.ent_tree.specs.declared.statement.Delete.{Delete}
use Rattle.ent_tree.specs.declared.statement.Insert.{Insert}
use Rattle.ent_tree.specs.declared.statement.Set.{Set}
use Rattle.ent_tree.specs.declared.statement.Update.{Update}
use Rattle.ent_semantics.specs.Database.{Name}
use Rattle.ent_semantics.specs.Term.{source_name}
use Rattle.ent_form.specs.declared.catalogue.ColumnSchema.{ColumnSchema}
use Rattle.ent_form.specs.declared.catalogue.TableSchema.{TableSchema}
use Rattle.ent_form.specs.declared.fault.FormFault.{FormFault}
use Rattle.ent_form.specs.declared.fault.FormFault.TheVariants.{NoTable, NoColumn, Arity, WrongKind, NoHostVariable}
use Rattle.ent_form.specs.declared.fault.FormFault.TheVariants.{Ambiguous, Repeated}
use Rattle.ent_form.specs.Catalogue.{schemas_of, table_named, names_of, column_named}
use Rattle.ent_form.specs.Kinds.{Bound}
use Rattle.ent_form.specs.Lookup.{operand_place, expression_place}
use Rattle.ent_form.specs.Scope.{source_place}
use Rattle.ent_form.specs.AllFaults.{Terms, values, View, columns_meant, operands_over, expression_kind, view_of}
use Rattle.ent_form.specs.AllFaults.{table_view}

-- ---- declarations and opening rows

-- a name stands a second time among these
abbrev pub IsRepetition : List Identifier → FormFault → Type 0
IsRepetition identifiers fault =
    (before : List Identifier) × (second : Identifier) × (after : List Identifier)
    × (identifiers ≡ before ++ second ∷ after) × Contains (map (λ first. first.name) before) second.name
    × (fault ≡ Repeated second.place)

-- a table is declared twice, or a column within its table
abbrev pub IsDeclarationFault : List Create → FormFault → Type 0
IsDeclarationFault creates fault =
    IsRepetition (map (λ create. create.name) creates) fault
    ⊎ Any (λ create. IsRepetition (map (λ column. column.name) create.columns) fault) creates

-- a row has another number of values than its table has columns, or a value of another kind than its column
abbrev pub IsRowFault : TableSchema → OpeningRow → FormFault → Type 0
IsRowFault table row fault =
    (¬ (length row.values ≡ length table.columns) × (fault ≡ Arity row.place))
    ⊎ Any (λ side. ¬ (side.0.kind ≡ kind_of side.1.value) × (fault ≡ WrongKind side.1.place))
    (zip table.columns row.values)

-- no table has the name of what stands there, or there is a fault in what is said of the table
abbrev pub IsTableFault : List TableSchema → Identifier → (TableSchema → Type 0) → FormFault → Type 0
IsTableFault tables named faulty fault =
    (¬ Contains (names_of tables) named.name × (fault ≡ NoTable named.place))
    ⊎ ((found : ℕ × TableSchema) × (table_named tables named.name ≡ Some found) × faulty found.1)

abbrev pub IsOpeningRowFault : List TableSchema → OpeningRow → FormFault → Type 0
IsOpeningRowFault tables row fault = IsTableFault tables row.table (λ table. IsRowFault table row fault) fault

abbrev pub IsOpeningFault : Opening → FormFault → Type 0
IsOpeningFault opening fault =
    IsDeclarationFault opening.tables fault
    ⊎ Any (λ row. IsOpeningRowFault (schemas_of opening.tables) row fault) opening.rows

-- ---- terms

-- a host variable that isn't bound
abbrev pub IsValueFault : Bound → ValueSpecification → FormFault → Type 0
IsValueFault bound (specifications.Literal literal) fault = ⊥
IsValueFault bound (specifications.HostVariable variable) fault =
    (bound variable.name ≡ None) × (fault ≡ NoHostVariable variable.place)

-- a qualifier that is no name of a source
abbrev pub IsQualifierFault : View → Option Identifier → FormFault → Type 0
IsQualifierFault view (Some qualifier) fault =
    ¬ Contains view.names qualifier.name × (fault ≡ NoTable qualifier.place)
IsQualifierFault view None fault = ⊥

-- a source that isn't there, or a column that none of the sources has, or more than one
abbrev pub IsReferenceFault : View → ColumnReference → FormFault → Type 0
IsReferenceFault view reference fault =
    IsQualifierFault view reference.qualifier fault
    ⊎ (((other : FormFault) → ¬ IsQualifierFault view reference.qualifier other)
    × (((length (columns_meant view reference) ≡ 0) × (fault ≡ NoColumn reference.column.place))
    ⊎ ((1 < length (columns_meant view reference)) × (fault ≡ Ambiguous reference.column.place))))

abbrev pub IsOperandFault : View → Bound → Operand → FormFault → Type 0
IsOperandFault view bound (operands.Value value) fault = IsValueFault bound value fault
IsOperandFault view bound (operands.Column reference) fault = IsReferenceFault view reference fault

-- the two kinds are known, and differ
abbrev pub Differ : Option Kind → Option Kind → Type 0
Differ left right = (one : Kind) × (other : Kind) × (left ≡ Some one) × (right ≡ Some other) × ¬ (one ≡ other)

module _ {A : Type 0} (terms : Terms A) (IsTermFault : A → FormFault → Type 0) where
  -- a term that has a fault, or is of another kind than is wanted
  abbrev pub IsUnwanted : Kind → A → FormFault → Type 0
  IsUnwanted wanted term fault =
      IsTermFault term fault
      ⊎ (Differ (Some wanted) (terms.kind term) × (fault ≡ WrongKind (terms.place term)))

  -- a side has a fault, or the two sides are of two kinds
  abbrev pub IsTestFault : Test A → FormFault → Type 0
  IsTestFault test fault =
      IsTermFault test.left fault
      ⊎ (IsTermFault test.right fault
      ⊎ (Differ (terms.kind test.left) (terms.kind test.right) × (fault ≡ WrongKind (terms.place test.right))))

  -- a term has a fault, or a text stands beside `+` or `-`
  abbrev pub IsExpressionFault : Expression A → FormFault → Type 0
  IsExpressionFault (Single term) fault = IsTermFault term fault
  IsExpressionFault (Sum left right) fault = Any (λ term. IsUnwanted kinds.Int term fault) (left ∷ right ∷ [])
  IsExpressionFault (Difference left right) fault = Any (λ term. IsUnwanted kinds.Int term fault) (left ∷ right ∷ [])

-- ---- ordinary statements

-- no table has the name of a source, or a name that a source goes by stands a second time
abbrev pub IsSourcesFault : List TableSchema → List Source → FormFault → Type 0
IsSourcesFault tables sources fault =
    (before : List Source) × (source : Source) × (after : List Source) × (sources ≡ before ++ source ∷ after)
    × ((¬ Contains (names_of tables) source.table.name × (fault ≡ NoTable source.table.place))
    ⊎ (Contains (map source_name before) (source_name source) × (fault ≡ Ambiguous (source_place source))))

abbrev pub IsItemFault : View → Bound → Items → FormFault → Type 0
IsItemFault view bound items.All fault = ⊥
IsItemFault view bound (items.Listed listed) fault = Any (λ operand. IsOperandFault view bound operand fault) listed

abbrev pub IsWhereFault : View → Bound → List (Test Operand) → FormFault → Type 0
IsWhereFault view bound tests fault =
    Any (λ test. IsTestFault (operands_over view bound) (IsOperandFault view bound) test fault) tests

-- a source has a fault; or, where none has, a test or an item
abbrev pub IsSelectFault : List TableSchema → Bound → Select → FormFault → Type 0
IsSelectFault tables bound select fault =
    let view = view_of tables select.sources in
    IsSourcesFault tables select.sources fault
    ⊎ (((other : FormFault) → ¬ IsSourcesFault tables select.sources other)
    × (IsWhereFault view bound select.tests fault ⊎ IsItemFault view bound select.items fault))

-- another number of values than the table has columns, or a value that has a fault or isn't of its column's kind
abbrev pub IsInsertFault : List TableSchema → Bound → Insert → FormFault → Type 0
IsInsertFault tables bound insert fault =
    IsTableFault tables insert.table (λ table.
    (¬ (length insert.values ≡ length table.columns) × (fault ≡ Arity insert.place))
    ⊎ Any (λ side. IsUnwanted (values bound) (IsValueFault bound) side.0.kind side.1 fault)
    (zip table.columns insert.values)) fault

abbrev pub IsDeleteFault : List TableSchema → Bound → Delete → FormFault → Type 0
IsDeleteFault tables bound delete fault =
    IsTableFault tables delete.table (λ table.
    IsWhereFault (table_view delete.table.name table) bound delete.tests fault) fault

-- A column that the table doesn't have; or, where it has it: it was assigned before, the right side has a fault, or the
-- two sides are of two kinds.
abbrev pub IsAssignmentFault : View → Bound → List ColumnSchema → List Name → Assignment → FormFault → Type 0
IsAssignmentFault view bound columns earlier assignment fault =
    let terms = operands_over view bound in
    (¬ Contains (map (λ column. column.name) columns) assignment.column.name
    × (fault ≡ NoColumn assignment.column.place))
    ⊎ ((column : ℕ × Kind) × (column_named columns assignment.column.name ≡ Some column)
    × ((Contains earlier assignment.column.name × (fault ≡ Repeated assignment.column.place))
    ⊎ (IsExpressionFault terms (IsOperandFault view bound) assignment.expression fault
    ⊎ (Differ (Some column.1) (expression_kind terms assignment.expression)
    × (fault ≡ WrongKind (expression_place operand_place assignment.expression))))))

-- one of the assignments has a fault, those before it being these
abbrev pub IsAssignmentsFault : View → Bound → List ColumnSchema → List Assignment → FormFault → Type 0
IsAssignmentsFault view bound columns assignments fault =
    (before : List Assignment) × (assignment : Assignment) × (after : List Assignment)
    × (assignments ≡ before ++ assignment ∷ after)
    × IsAssignmentFault view bound columns (map (λ earlier. earlier.column.name) before) assignment fault

abbrev pub IsUpdateFault : List TableSchema → Bound → Update → FormFault → Type 0
IsUpdateFault tables bound update fault =
    IsTableFault tables update.table (λ table.
    let view = table_view update.table.name table in
    IsWhereFault view bound update.tests fault
    ⊎ IsAssignmentsFault view bound table.columns update.assignments fault) fault

abbrev pub IsSetFault : Bound → Set → FormFault → Type 0
IsSetFault bound set fault = IsExpressionFault (values bound) (IsValueFault bound) set.expression fault
