-- All faults of an opening and of ordinary statements, in the order in which they count.
use Rattle.std.specs.Prelude.{ℕ, Bool, not, List, [], ◌∷◌, ◌++◌, map, length, Option, Some, None, is_none, Result, Ok}
use Rattle.std.specs.Prelude.{Err}
use Rattle.std.specs.Prelude.{if◌then◌else◌, ◌==◌}
use Rattle.std.specs.List.{filter, flat_map}
use Rattle.ent_value.specs.Value.{kind_of}
use Rattle.ent_value.specs.declared.value.Kind.{Kind}
use Rattle.ent_value.specs.declared.value.Kind.TheVariants as kinds
use Rattle.ent_value.specs.Kinds.{same_kind}
use Rattle.ent_tree.specs.declared.declaration.Create.{Create}
use Rattle.ent_tree.specs.declared.declaration.Opening.{Opening}
use Rattle.ent_tree.specs.declared.declaration.OpeningRow.{OpeningRow}
use Rattle.ent_tree.specs.declared.operand.ColumnReference.{ColumnReference}
use Rattle.ent_tree.specs.declared.operand.Expression.{Expression}
use Rattle.ent_tree.specs.declared.operand.Expression.TheVariants.{Single, Sum, Difference}
use Rattle.ent_tree.specs.declared.operand.Identifier.{Identifier}
use Rattle.ent_tree.specs.declared.operand.Literal.{Literal}
use Rattle.ent_tree.specs.declared.operand.Operand.{Operand}
use Rattle.ent_tree.specs.declared.operand.Operand.TheVariants as operands
use Rattle.ent_tree.specs.declared.operand.Test.{Test}
use Rattle.ent_tree.specs.declared.operand.ValueSpecification.{ValueSpecification}
use Rattle.ent_tree.specs.declared.operand.ValueSpecification.TheVariants as specifications
use Rattle.ent_tree.specs.declared.select.Items.{Items}
use Rattle.ent_tree.specs.declared.select.Items.TheVariants as items
use Rattle.ent_tree.specs.declared.select.Select.{Select}
use Rattle.ent_tree.specs.declared.select.Source.{Source}
use Rattle.ent_tree.specs.declared.statement.Assignment.{Assignment}
use Rattle.ent_tree.specs.declared.statement.Delete.{Delete}
use Rattle.ent_tree.specs.declared.statement.Insert.{Insert}
use Rattle.ent_tree.specs.declared.statement.Set.{Set}
use Rattle.ent_tree.specs.declared.statement.Update.{Update}
use Rattle.ent_tree.specs.Places.{value_place}
use Rattle.ent_semantics.specs.Database.{Name, is_among}
use Rattle.ent_semantics.specs.Term.{source_name, refers_to}
use Rattle.ent_form.specs.declared.catalogue.ColumnSchema.{ColumnSchema}
use Rattle.ent_form.specs.declared.catalogue.TableSchema.{TableSchema}
use Rattle.ent_form.specs.declared.fault.FormFault.{FormFault}
use Rattle.ent_form.specs.declared.fault.FormFault.TheVariants.{NoTable, NoColumn, Arity, WrongKind, NoHostVariable}
use Rattle.ent_form.specs.declared.fault.FormFault.TheVariants.{Ambiguous, Repeated}
use Rattle.ent_form.specs.Catalogue.{schemas_of, table_named, column_named}
use Rattle.ent_form.specs.Kinds.{Bound}
use Rattle.ent_form.specs.Lookup.{operand_place, expression_place}
use Rattle.ent_form.specs.OpeningFault.{Check}
use Rattle.ent_form.specs.Scope.{Visible, visible, source_place}

-- the fault that ends a step, where one does
abbrev pub fault_of : {A : Type 0} → Result A FormFault → Check
fault_of (Ok x) = None
fault_of (Err fault) = Some fault

abbrev pub head_of : List FormFault → Check
head_of [] = None
head_of (fault ∷ more) = Some fault

abbrev pub faults_where : Bool → FormFault → List FormFault
faults_where test fault = if test then fault ∷ [] else []

-- the faults of what is there, or that it isn't there
abbrev pub faults_at : {A : Type 0} → Option A → FormFault → (A → List FormFault) → List FormFault
faults_at (Some x) fault faults = faults x
faults_at None fault faults = fault ∷ []

-- the later faults count where there are none of the earlier
abbrev pub unless_any : List FormFault → List FormFault → List FormFault
unless_any [] later = later
unless_any (fault ∷ more) later = fault ∷ more

-- two kinds that are known differ
abbrev pub kinds_faults : Option Kind → Option Kind → FormFault → List FormFault
kinds_faults (Some left) (Some right) fault = faults_where (not (same_kind left right)) fault
kinds_faults (Some left) None fault = []
kinds_faults None right fault = []

-- ---- declarations and opening rows

-- every name that stands among those before it
abbrev pub repeated_names : List Name → List Identifier → List FormFault
repeated_names earlier [] = []
repeated_names earlier (identifier ∷ more) =
    faults_where (is_among earlier identifier.name) (Repeated identifier.place)
    ++ repeated_names (earlier ++ identifier.name ∷ []) more

-- table by table: its name, then those of its columns
abbrev pub declarations_faults : List Name → List Create → List FormFault
declarations_faults earlier [] = []
declarations_faults earlier (create ∷ more) =
    faults_where (is_among earlier create.name.name) (Repeated create.name.place)
    ++ (repeated_names [] (map (λ column. column.name) create.columns)
    ++ declarations_faults (earlier ++ create.name.name ∷ []) more)

-- literals and columns side by side
abbrev pub literals_faults : List ColumnSchema → List Literal → List FormFault
literals_faults [] literals = []
literals_faults (column ∷ columns) [] = []
literals_faults (column ∷ columns) (literal ∷ literals) =
    faults_where (not (same_kind column.kind (kind_of literal.value))) (WrongKind literal.place)
    ++ literals_faults columns literals

abbrev pub row_faults : TableSchema → OpeningRow → List FormFault
row_faults table row =
    faults_where (not (length row.values == length table.columns)) (Arity row.place)
    ++ literals_faults table.columns row.values

abbrev pub opening_row_faults : List TableSchema → OpeningRow → List FormFault
opening_row_faults tables row =
    faults_at (table_named tables row.table.name) (NoTable row.table.place) (λ found. row_faults found.1 row)

-- declarations, then opening rows
abbrev pub opening_faults : Opening → List FormFault
opening_faults opening =
    declarations_faults [] opening.tables ++ flat_map (opening_row_faults (schemas_of opening.tables)) opening.rows

-- ---- terms

-- terms of a statement: the kind of one, where it is known, its own faults, and where it stands
pub record Terms (A : Type 0) : Type 0 where
  pub kind : A → Option Kind
  pub faults : A → List FormFault
  pub place : A → ℕ

abbrev pub value_kind : Bound → ValueSpecification → Option Kind
value_kind bound (specifications.Literal literal) = Some (kind_of literal.value)
value_kind bound (specifications.HostVariable variable) = bound variable.name

abbrev pub value_faults : Bound → ValueSpecification → List FormFault
value_faults bound (specifications.Literal literal) = []
value_faults bound (specifications.HostVariable variable) =
    faults_where (is_none (bound variable.name)) (NoHostVariable variable.place)

-- values that are written, and host variables that are bound
abbrev pub values : Bound → Terms ValueSpecification
values bound = record { kind = value_kind bound; faults = value_faults bound; place = value_place }

-- the names that sources go by, and their columns
pub record View : Type 0 where
  pub names : List Name
  pub columns : List Visible

-- the columns that a reference may mean
abbrev pub columns_meant : View → ColumnReference → List Visible
columns_meant view reference = filter (λ column. refers_to reference column.column) view.columns

abbrev pub only_kind : List Visible → Option Kind
only_kind [] = None
only_kind (column ∷ []) = Some column.kind
only_kind (column ∷ other ∷ more) = None

-- exactly one column is meant
abbrev pub meant_faults : List Visible → ℕ → List FormFault
meant_faults [] place = NoColumn place ∷ []
meant_faults (column ∷ []) place = []
meant_faults (column ∷ other ∷ more) place = Ambiguous place ∷ []

-- a qualifier, where there is one, is the name of a source
abbrev pub qualifier_faults : View → Option Identifier → List FormFault
qualifier_faults view (Some qualifier) =
    faults_where (not (is_among view.names qualifier.name)) (NoTable qualifier.place)
qualifier_faults view None = []

-- of a source that isn't there no column counts
abbrev pub reference_faults : View → ColumnReference → List FormFault
reference_faults view reference =
    unless_any (qualifier_faults view reference.qualifier)
    (meant_faults (columns_meant view reference) reference.column.place)

abbrev pub operand_kind : View → Bound → Operand → Option Kind
operand_kind view bound (operands.Value value) = value_kind bound value
operand_kind view bound (operands.Column reference) = only_kind (columns_meant view reference)

abbrev pub operand_faults : View → Bound → Operand → List FormFault
operand_faults view bound (operands.Value value) = value_faults bound value
operand_faults view bound (operands.Column reference) = reference_faults view reference

-- values, and the columns of sources
abbrev pub operands_over : View → Bound → Terms Operand
operands_over view bound =
    record { kind = operand_kind view bound; faults = operand_faults view bound; place = operand_place }

module _ {A : Type 0} (terms : Terms A) where
  -- a term that is to be of this kind
  abbrev pub wanted_faults : Kind → A → List FormFault
  wanted_faults wanted term =
      terms.faults term ++ kinds_faults (Some wanted) (terms.kind term) (WrongKind (terms.place term))

  -- both sides, then their kinds
  abbrev pub test_faults : Test A → List FormFault
  test_faults test =
      terms.faults test.left
      ++ (terms.faults test.right
      ++ kinds_faults (terms.kind test.left) (terms.kind test.right) (WrongKind (terms.place test.right)))

  -- a text beside `+` or `-` is refused
  abbrev pub expression_faults : Expression A → List FormFault
  expression_faults (Single term) = terms.faults term
  expression_faults (Sum left right) = wanted_faults kinds.Int left ++ wanted_faults kinds.Int right
  expression_faults (Difference left right) = wanted_faults kinds.Int left ++ wanted_faults kinds.Int right

  -- the kind of a term alone; a sum and a difference are numbers
  abbrev pub expression_kind : Expression A → Option Kind
  expression_kind (Single term) = terms.kind term
  expression_kind (Sum left right) = Some kinds.Int
  expression_kind (Difference left right) = Some kinds.Int

-- ---- ordinary statements

-- the columns of a source that is there, under the name that it goes by
abbrev pub columns_there : Name → Option (ℕ × TableSchema) → List Visible
columns_there name (Some found) = map (visible name) found.1.columns
columns_there name None = []

-- the names that sources go by, and their columns side by side
abbrev pub view_of : List TableSchema → List Source → View
view_of tables sources =
    record {
      names = map source_name sources;
      columns = flat_map (λ source. columns_there (source_name source) (table_named tables source.table.name)) sources;
    }

-- source by source: its table is there, and its name is new
abbrev pub sources_faults : List TableSchema → List Name → List Source → List FormFault
sources_faults tables earlier [] = []
sources_faults tables earlier (source ∷ more) =
    faults_where (is_none (table_named tables source.table.name)) (NoTable source.table.place)
    ++ (faults_where (is_among earlier (source_name source)) (Ambiguous (source_place source))
    ++ sources_faults tables (earlier ++ source_name source ∷ []) more)

abbrev pub items_faults : Terms Operand → Items → List FormFault
items_faults terms items.All = []
items_faults terms (items.Listed listed) = flat_map terms.faults listed

-- the sources; where they are all there, WHERE and then the items
abbrev pub select_faults : List TableSchema → Bound → Select → List FormFault
select_faults tables bound select =
    let terms = operands_over (view_of tables select.sources) bound in
    unless_any (sources_faults tables [] select.sources)
    (flat_map (test_faults terms) select.tests ++ items_faults terms select.items)

-- values and columns side by side
abbrev pub values_faults : Bound → List ColumnSchema → List ValueSpecification → List FormFault
values_faults bound [] values = []
values_faults bound (column ∷ columns) [] = []
values_faults bound (column ∷ columns) (value ∷ more) =
    wanted_faults (values bound) column.kind value ++ values_faults bound columns more

-- the table, the number of values, then each of them
abbrev pub insert_faults : List TableSchema → Bound → Insert → List FormFault
insert_faults tables bound insert =
    faults_at (table_named tables insert.table.name) (NoTable insert.table.place) (λ found.
    faults_where (not (length insert.values == length found.1.columns)) (Arity insert.place)
    ++ values_faults bound found.1.columns insert.values)

-- a statement over one table sees it under its own name
abbrev pub table_view : Name → TableSchema → View
table_view name table = record { names = name ∷ []; columns = map (visible name) table.columns }

-- the table, then WHERE
abbrev pub delete_faults : List TableSchema → Bound → Delete → List FormFault
delete_faults tables bound delete =
    faults_at (table_named tables delete.table.name) (NoTable delete.table.place) (λ found.
    flat_map (test_faults (operands_over (table_view delete.table.name found.1) bound)) delete.tests)

-- what is assigned to a column that is there
abbrev pub assignment_faults : Terms Operand → List ColumnSchema → List Name → Assignment → List FormFault
assignment_faults terms columns earlier assignment =
    faults_at (column_named columns assignment.column.name) (NoColumn assignment.column.place) (λ column.
    faults_where (is_among earlier assignment.column.name) (Repeated assignment.column.place)
    ++ (expression_faults terms assignment.expression
    ++ kinds_faults (Some column.1) (expression_kind terms assignment.expression)
    (WrongKind (expression_place operand_place assignment.expression))))

abbrev pub assignments_faults : Terms Operand → List ColumnSchema → List Name → List Assignment → List FormFault
assignments_faults terms columns earlier [] = []
assignments_faults terms columns earlier (assignment ∷ more) =
    assignment_faults terms columns earlier assignment
    ++ assignments_faults terms columns (earlier ++ assignment.column.name ∷ []) more

-- the table, then WHERE, then the assignments
abbrev pub update_faults : List TableSchema → Bound → Update → List FormFault
update_faults tables bound update =
    faults_at (table_named tables update.table.name) (NoTable update.table.place) (λ found.
    let terms = operands_over (table_view update.table.name found.1) bound in
    flat_map (test_faults terms) update.tests ++ assignments_faults terms found.1.columns [] update.assignments)

abbrev pub set_faults : Bound → Set → List FormFault
set_faults bound set = expression_faults (values bound) set.expression
