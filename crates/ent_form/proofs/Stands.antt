-- All faults of openings and ordinary statements are those that stand there.
use Rattle.std.proofs.Common.{◌≡◌, ℕ, ◌<◌, not, List, [], ◌∷◌, ◌++◌, length, map, Option, Some, None, ◌⊎◌}
use Rattle.std.proofs.Common.{inl, inr, refl, sym, subst, arith}
use Rattle.std.specs.Prelude.{◌↔◌, ◌==◌, is_none}
use Rattle.std.specs.List.{Any, Contains, flat_map, zip}
use Rattle.std.proofs.lemmas.List.{append-nil, append_assoc}
use Rattle.ent_lists.proofs.Truth.{in_turn}
use Rattle.ent_value.specs.Value.{kind_of}
use Rattle.ent_value.specs.declared.value.Kind.{Kind}
use Rattle.ent_value.specs.declared.value.Kind.TheVariants as kinds
use Rattle.ent_value.specs.Kinds.{same_kind}
use Rattle.ent_tree.specs.declared.declaration.Create.{Create}
use Rattle.ent_tree.specs.declared.declaration.Opening.{Opening}
use Rattle.ent_tree.specs.declared.declaration.OpeningRow.{OpeningRow}
use Rattle.ent_tree.specs.declared.operand.ColumnReference.{ColumnReference}
use Rattle.ent_tree.specs.declared.operand.Expression.{Expression}
use Rattle.ent_tree.specs.declared.operand.Expression.TheVariants.{Single, Sum, Difference}
use Rattle.ent_tree.specs.declared.operand.Identifier.{Identifier}
use Rattle.ent_tree.specs.declared.operand.Literal.{Literal}
use Rattle.ent_tree.specs.declared.operand.Operand.{Operand}
use Rattle.ent_tree.specs.declared.operand.Operand.TheVariants as operands
use Rattle.ent_tree.specs.declared.operand.Test.{Test}
use Rattle.ent_tree.specs.declared.operand.ValueSpecification.{ValueSpecification}
use Rattle.ent_tree.specs.declared.operand.ValueSpecification.TheVariants as specifications
use Rattle.ent_tree.specs.declared.select.Items.{Items}
use Rattle.ent_tree.specs.declared.select.Items.TheVariants as items
use Rattle.ent_tree.specs.declared.select.Select.{Select}
use Rattle.ent_tree.specs.declared.select.Source.{Source}
use Rattle.ent_tree.specs.declared.statement.Assignment.{Assignment}
use Rattle.ent_tree.specs.declared.statement.Delete.{Delete}
use Rattle.ent_tree.specs.declared.statement.Insert.{Insert}
use Rattle.ent_tree.specs.declared.statement.Set.{Set}
use Rattle.ent_tree.specs.declared.statement.Update.{Update}
use Rattle.ent_semantics.specs.Database.{Name, is_among}
use Rattle.ent_semantics.specs.Term.{source_name}
use Rattle.ent_form.specs.declared.catalogue.ColumnSchema.{ColumnSchema}
use Rattle.ent_form.specs.declared.catalogue.TableSchema.{TableSchema}
use Rattle.ent_form.specs.declared.fault.FormFault.{FormFault}
use Rattle.ent_form.specs.declared.fault.FormFault.TheVariants.{NoTable, NoColumn, Arity, WrongKind, NoHostVariable}
use Rattle.ent_form.specs.declared.fault.FormFault.TheVariants.{Ambiguous, Repeated}
use Rattle.ent_form.specs.Catalogue.{schemas_of, table_named, names_of, column_named}
use Rattle.ent_form.specs.Kinds.{Bound}
use Rattle.ent_form.specs.Lookup.{operand_place, expression_place}
use Rattle.ent_form.specs.Scope.{Visible, source_place}
use Rattle.ent_form.specs.AllFaults.{faults_where, kinds_faults, repeated_names, declarations_faults}
use Rattle.ent_form.specs.AllFaults.{literals_faults, row_faults, opening_row_faults, opening_faults, Terms}
use Rattle.ent_form.specs.AllFaults.{value_faults}
use Rattle.ent_form.specs.AllFaults.{values, View, columns_meant, meant_faults, qualifier_faults, reference_faults}
use Rattle.ent_form.specs.AllFaults.{operand_faults, operands_over, wanted_faults, test_faults, expression_faults}
use Rattle.ent_form.specs.AllFaults.{expression_kind, view_of, sources_faults, items_faults, select_faults}
use Rattle.ent_form.specs.AllFaults.{values_faults}
use Rattle.ent_form.specs.AllFaults.{insert_faults, table_view, delete_faults, assignment_faults, assignments_faults}
use Rattle.ent_form.specs.AllFaults.{update_faults, set_faults}
use Rattle.ent_form.specs.Standing.{IsRepetition, IsDeclarationFault, IsRowFault, IsOpeningRowFault}
use Rattle.ent_form.specs.Standing.{IsOpeningFault}
use Rattle.ent_form.specs.Standing.{IsValueFault, IsQualifierFault, IsReferenceFault, IsOperandFault, IsUnwanted}
use Rattle.ent_form.specs.Standing.{IsTestFault, IsExpressionFault, IsItemFault, IsWhereFault}
use Rattle.ent_form.specs.Standing.{IsSelectFault, IsInsertFault, IsDeleteFault, IsAssignmentFault}
use Rattle.ent_form.specs.Standing.{IsUpdateFault, IsSetFault}
use Rattle.ent_form.proofs.StandsWhere.{where_stands, kinds_differ, numbers_differ, kinds_stand, at_stands}
use Rattle.ent_form.proofs.StandsWhere.{there_with}
use Rattle.ent_form.proofs.StandsWhere.{none_is}
use Rattle.ent_form.proofs.StandsWhere.{unless_stands, none_with, among, not_among, no_table, no_column}
use Rattle.ent_form.proofs.StandsWhere.{table_stands}
use Rattle.ent_form.proofs.ResolvedMembership.{turned, alike, either, holding, grouped, crossed, none_there, here}
use Rattle.ent_form.proofs.ResolvedMembership.{contains_cons, contains_append, any_nil, any_cons, any_two, any_same}
use Rattle.ent_form.proofs.ResolvedMembership.{contains_flat_map, CutWhere, cut_nil, cut_cons, cut_same}

same_by : {A : Type 0} (P : A → Type 0) {x y : A} → x ≡ y → P x ↔ P y
same_by P e = (subst P e, subst P (sym e))

behind : {A : Type 0} (name : A → Name) (earlier : List Name) (x : A) (before : List A)
    → (earlier ++ name x ∷ []) ++ map name before ≡ earlier ++ map name (x ∷ before)
behind name earlier x before = append_assoc earlier (name x ∷ []) (map name before)

pub number_stands : (m n : ℕ) (one fault : FormFault)
    → Contains (faults_where (not (m == n)) one) fault ↔ ((¬ (m ≡ n)) × (fault ≡ one))
number_stands m n one fault = in_turn (where_stands (not (m == n)) one fault) (holding (numbers_differ m n))

-- ---- declarations

-- a name stands among these, or among those before it, and is repeated here
abbrev IsSecond : List Name → FormFault → List Identifier → Identifier → Type 0
IsSecond earlier fault before second =
    Contains (earlier ++ map (λ first. first.name) before) second.name × (fault ≡ Repeated second.place)

repeated_stand : (earlier : List Name) (identifiers : List Identifier) (fault : FormFault)
    → Contains (repeated_names earlier identifiers) fault ↔ CutWhere (IsSecond earlier fault) identifiers
repeated_stand earlier [] fault = (λ h. absurd (none_there h), λ h. absurd (cut_nil (IsSecond earlier fault) h))
repeated_stand earlier (identifier ∷ more) fault =
    let again = is_among earlier identifier.name in
    let next = earlier ++ identifier.name ∷ [] in
    in_turn (contains_append (faults_where again (Repeated identifier.place)) (repeated_names next more) fault)
    (in_turn (either
    (in_turn (where_stands again (Repeated identifier.place) fault) (holding (in_turn (among earlier identifier.name)
    (same_by (λ names. Contains names identifier.name) (sym (append-nil earlier))))))
    (in_turn (repeated_stand next more fault)
    (cut_same (IsSecond next fault) (λ before. IsSecond earlier fault (identifier ∷ before))
    (λ before second. holding (same_by (λ names. Contains names second.name)
    (behind (λ first. first.name) earlier identifier before))) more)))
    (turned (cut_cons (IsSecond earlier fault) identifier more)))

pub repetitions_stand : (identifiers : List Identifier) (fault : FormFault)
    → Contains (repeated_names [] identifiers) fault ↔ IsRepetition identifiers fault
repetitions_stand identifiers fault =
    in_turn (repeated_stand [] identifiers fault)
    (λ h. (h.0, h.1, h.2, h.3, h.4.0, h.4.1), λ h. (h.0, h.1, h.2, h.3, (h.4, h.5)))

-- a column is declared twice in its table
abbrev Inside : FormFault → Create → Type 0
Inside fault create = Contains (repeated_names [] (map (λ column. column.name) create.columns)) fault

neither : {C : Type 0} (fault : FormFault) → Contains [] fault ⊎ Any (Inside fault) [] → C
neither fault (inl h) = absurd (none_there h)
neither fault (inr h) = absurd (any_nil (Inside fault) h)

apart : (earlier : List Name) (creates : List Create) (fault : FormFault)
    → Contains (declarations_faults earlier creates) fault
    ↔ (Contains (repeated_names earlier (map (λ create. create.name) creates)) fault ⊎ Any (Inside fault) creates)
apart earlier [] fault = (λ h. absurd (none_there h), neither fault)
apart earlier (create ∷ more) fault =
    let again = faults_where (is_among earlier create.name.name) (Repeated create.name.place) in
    let next = earlier ++ create.name.name ∷ [] in
    let inside = repeated_names [] (map (λ column. column.name) create.columns) in
    in_turn (contains_append again (inside ++ declarations_faults next more) fault)
    (in_turn (either alike (in_turn (contains_append inside (declarations_faults next more) fault)
    (either alike (apart next more fault))))
    (in_turn crossed
    (either (turned (contains_append again (repeated_names next (map (λ create. create.name) more)) fault))
    (turned (any_cons (Inside fault) create more)))))

declarations_stand : (creates : List Create) (fault : FormFault)
    → Contains (declarations_faults [] creates) fault ↔ IsDeclarationFault creates fault
declarations_stand creates fault =
    in_turn (apart [] creates fault)
    (either (repetitions_stand (map (λ create. create.name) creates) fault)
    (any_same (Inside fault) (λ create. IsRepetition (map (λ column. column.name) create.columns) fault)
    (λ create. repetitions_stand (map (λ column. column.name) create.columns) fault) creates))

-- ---- opening rows

-- a literal of another kind than its column
abbrev IsOther : FormFault → ColumnSchema × Literal → Type 0
IsOther fault side = (¬ (side.0.kind ≡ kind_of side.1.value)) × (fault ≡ WrongKind side.1.place)

literals_stand : (columns : List ColumnSchema) (literals : List Literal) (fault : FormFault)
    → Contains (literals_faults columns literals) fault ↔ Any (IsOther fault) (zip columns literals)
literals_stand [] literals fault = (λ h. absurd (none_there h), λ h. absurd (any_nil (IsOther fault) h))
literals_stand (column ∷ columns) [] fault = (λ h. absurd (none_there h), λ h. absurd (any_nil (IsOther fault) h))
literals_stand (column ∷ columns) (literal ∷ literals) fault =
    let differ = not (same_kind column.kind (kind_of literal.value)) in
    in_turn (contains_append (faults_where differ (WrongKind literal.place)) (literals_faults columns literals) fault)
    (in_turn (either (in_turn (where_stands differ (WrongKind literal.place) fault)
    (holding (kinds_differ column.kind (kind_of literal.value)))) (literals_stand columns literals fault))
    (turned (any_cons (IsOther fault) (column, literal) (zip columns literals))))

row_stands : (row : OpeningRow) (fault : FormFault) (table : TableSchema)
    → Contains (row_faults table row) fault ↔ IsRowFault table row fault
row_stands row fault table =
    in_turn (contains_append (faults_where (not (length row.values == length table.columns)) (Arity row.place))
    (literals_faults table.columns row.values) fault)
    (either (number_stands (length row.values) (length table.columns) (Arity row.place) fault)
    (literals_stand table.columns row.values fault))

opening_row_stands : (tables : List TableSchema) (fault : FormFault) (row : OpeningRow)
    → Contains (opening_row_faults tables row) fault ↔ IsOpeningRowFault tables row fault
opening_row_stands tables fault row =
    table_stands tables row.table fault (λ found. row_faults found.1 row) (λ table. IsRowFault table row fault)
    (λ found. row_stands row fault found.1)

pub opening_stands : (opening : Opening) (fault : FormFault)
    → Contains (opening_faults opening) fault ↔ IsOpeningFault opening fault
opening_stands opening fault =
    let schemas = schemas_of opening.tables in
    in_turn (contains_append (declarations_faults [] opening.tables)
    (flat_map (opening_row_faults schemas) opening.rows)
    fault)
    (either (declarations_stand opening.tables fault)
    (in_turn (contains_flat_map (opening_row_faults schemas) fault opening.rows)
    (any_same (λ row. Contains (opening_row_faults schemas row) fault) (λ row. IsOpeningRowFault schemas row fault)
    (opening_row_stands schemas fault) opening.rows)))

-- ---- terms

module _ {A : Type 0} (terms : Terms A) (IsTermFault : A → FormFault → Type 0) (fault : FormFault)
    (stands : (term : A) → Contains (terms.faults term) fault ↔ IsTermFault term fault) where
  pub wanted_stands : (wanted : Kind) (term : A)
      → Contains (wanted_faults terms wanted term) fault ↔ IsUnwanted terms IsTermFault wanted term fault
  wanted_stands wanted term =
      let wrong = WrongKind (terms.place term) in
      in_turn (contains_append (terms.faults term) (kinds_faults (Some wanted) (terms.kind term) wrong) fault)
      (either (stands term) (kinds_stand (Some wanted) (terms.kind term) wrong fault))

  pub test_stands : (test : Test A) → Contains (test_faults terms test) fault ↔ IsTestFault terms IsTermFault test fault
  test_stands test =
      let wrong = WrongKind (terms.place test.right) in
      let compared = kinds_faults (terms.kind test.left) (terms.kind test.right) wrong in
      in_turn (contains_append (terms.faults test.left) (terms.faults test.right ++ compared) fault)
      (either (stands test.left)
      (in_turn (contains_append (terms.faults test.right) compared fault)
      (either (stands test.right) (kinds_stand (terms.kind test.left) (terms.kind test.right) wrong fault))))

  pub tests_stand : (tests : List (Test A))
      → Contains (flat_map (test_faults terms) tests) fault
      ↔ Any (λ test. IsTestFault terms IsTermFault test fault) tests
  tests_stand tests =
      in_turn (contains_flat_map (test_faults terms) fault tests)
      (any_same (λ test. Contains (test_faults terms test) fault) (λ test. IsTestFault terms IsTermFault test fault)
      test_stands tests)

  numbers_stand : (left right : A)
      → Contains (wanted_faults terms kinds.Int left ++ wanted_faults terms kinds.Int right) fault
      ↔ Any (λ term. IsUnwanted terms IsTermFault kinds.Int term fault) (left ∷ right ∷ [])
  numbers_stand left right =
      in_turn (contains_append (wanted_faults terms kinds.Int left) (wanted_faults terms kinds.Int right) fault)
      (in_turn (either (wanted_stands kinds.Int left) (wanted_stands kinds.Int right))
      (turned (any_two (λ term. IsUnwanted terms IsTermFault kinds.Int term fault) left right)))

  pub expression_stands : (expression : Expression A)
      → Contains (expression_faults terms expression) fault ↔ IsExpressionFault terms IsTermFault expression fault
  expression_stands (Single term) = stands term
  expression_stands (Sum left right) = numbers_stand left right
  expression_stands (Difference left right) = numbers_stand left right

pub value_stands : (bound : Bound) (fault : FormFault) (value : ValueSpecification)
    → Contains (value_faults bound value) fault ↔ IsValueFault bound value fault
value_stands bound fault (specifications.Literal literal) = (λ h. none_there h, λ h. absurd h)
value_stands bound fault (specifications.HostVariable variable) =
    in_turn (where_stands (is_none (bound variable.name)) (NoHostVariable variable.place) fault)
    (holding (none_is (bound variable.name)))

-- ---- columns

qualifier_stands : (view : View) (qualifier : Option Identifier) (fault : FormFault)
    → Contains (qualifier_faults view qualifier) fault ↔ IsQualifierFault view qualifier fault
qualifier_stands view None fault = (λ h. none_there h, λ h. absurd h)
qualifier_stands view (Some qualifier) fault =
    in_turn (where_stands (not (is_among view.names qualifier.name)) (NoTable qualifier.place) fault)
    (holding (not_among view.names qualifier.name))

-- no column is meant, or more than one
abbrev IsNotOne : List Visible → ℕ → FormFault → Type 0
IsNotOne columns place fault =
    ((length columns ≡ 0) × (fault ≡ NoColumn place)) ⊎ ((1 < length columns) × (fault ≡ Ambiguous place))

none_meant : (place : ℕ) (fault : FormFault) → IsNotOne [] place fault → fault ≡ NoColumn place
none_meant place fault (inl h) = h.1
none_meant place fault (inr h) = absurd (omega (arith, h.0))

one_meant : (column : Visible) (place : ℕ) (fault : FormFault) → IsNotOne (column ∷ []) place fault → ⊥
one_meant column place fault (inl h) = absurd (omega (arith, h.0))
one_meant column place fault (inr h) = absurd (omega (arith, h.0))

many_meant : (column other : Visible) (more : List Visible) (place : ℕ) (fault : FormFault)
    → IsNotOne (column ∷ other ∷ more) place fault → fault ≡ Ambiguous place
many_meant column other more place fault (inl h) = absurd (omega (arith, h.0))
many_meant column other more place fault (inr h) = h.1

only : (one fault : FormFault) → Contains (one ∷ []) fault → fault ≡ one
only one fault h = first ((contains_cons one [] fault).0 h)
  where
    first : (one ≡ fault) ⊎ Contains [] fault → fault ≡ one
    first (inl e) = sym e
    first (inr h) = absurd (none_there h)

meant_stands : (columns : List Visible) (place : ℕ) (fault : FormFault)
    → Contains (meant_faults columns place) fault ↔ IsNotOne columns place fault
meant_stands [] place fault = (
  λ h. inl (refl, only (NoColumn place) fault h),
  λ h. here (NoColumn place) [] fault (sym (none_meant place fault h)),
)
meant_stands (column ∷ []) place fault = (λ h. absurd (none_there h), λ h. absurd (one_meant column place fault h))
meant_stands (column ∷ other ∷ more) place fault = (
  λ h. inr (omega arith, only (Ambiguous place) fault h),
  λ h. here (Ambiguous place) [] fault (sym (many_meant column other more place fault h)),
)

reference_stands : (view : View) (fault : FormFault) (reference : ColumnReference)
    → Contains (reference_faults view reference) fault ↔ IsReferenceFault view reference fault
reference_stands view fault reference =
    let meant = columns_meant view reference in
    let place = reference.column.place in
    in_turn (unless_stands (qualifier_faults view reference.qualifier) (meant_faults meant place) fault)
    (either (qualifier_stands view reference.qualifier fault)
    (none_with (qualifier_stands view reference.qualifier) (meant_stands meant place fault)))

pub operand_stands : (view : View) (bound : Bound) (fault : FormFault) (operand : Operand)
    → Contains (operand_faults view bound operand) fault ↔ IsOperandFault view bound operand fault
operand_stands view bound fault (operands.Value value) = value_stands bound fault value
operand_stands view bound fault (operands.Column reference) = reference_stands view fault reference

-- ---- statements

-- a fault of a source, those before it having gone by these names
abbrev IsSourceFault : List TableSchema → List Name → FormFault → List Source → Source → Type 0
IsSourceFault tables earlier fault before source =
    (¬ Contains (names_of tables) source.table.name × (fault ≡ NoTable source.table.place))
    ⊎ (Contains (earlier ++ map source_name before) (source_name source) × (fault ≡ Ambiguous (source_place source)))

sources_stand : (tables : List TableSchema) (fault : FormFault) (earlier : List Name) (sources : List Source)
    → Contains (sources_faults tables earlier sources) fault ↔ CutWhere (IsSourceFault tables earlier fault) sources
sources_stand tables fault earlier [] =
    (λ h. absurd (none_there h), λ h. absurd (cut_nil (IsSourceFault tables earlier fault) h))
sources_stand tables fault earlier (source ∷ more) =
    let name = source_name source in
    let next = earlier ++ name ∷ [] in
    let absent = faults_where (is_none (table_named tables source.table.name)) (NoTable source.table.place) in
    let again = faults_where (is_among earlier name) (Ambiguous (source_place source)) in
    in_turn (contains_append absent (again ++ sources_faults tables next more) fault)
    (in_turn (either
    (in_turn (where_stands (is_none (table_named tables source.table.name)) (NoTable source.table.place) fault)
    (holding (in_turn (none_is (table_named tables source.table.name)) (no_table tables source.table.name))))
    (in_turn (contains_append again (sources_faults tables next more) fault)
    (either
    (in_turn (where_stands (is_among earlier name) (Ambiguous (source_place source)) fault)
    (holding (in_turn (among earlier name) (same_by (λ names. Contains names name) (sym (append-nil earlier))))))
    (in_turn (sources_stand tables fault next more)
    (cut_same (IsSourceFault tables next fault) (λ before. IsSourceFault tables earlier fault (source ∷ before))
    (λ before later. either alike (holding (same_by (λ names. Contains names (source_name later))
    (behind source_name earlier source before)))) more)))))
    (in_turn grouped (turned (cut_cons (IsSourceFault tables earlier fault) source more))))

items_stand : (view : View) (bound : Bound) (fault : FormFault) (all : Items)
    → Contains (items_faults (operands_over view bound) all) fault ↔ IsItemFault view bound all fault
items_stand view bound fault items.All = (λ h. none_there h, λ h. absurd h)
items_stand view bound fault (items.Listed listed) =
    in_turn (contains_flat_map (operand_faults view bound) fault listed)
    (any_same (λ operand. Contains (operand_faults view bound operand) fault)
    (λ operand. IsOperandFault view bound operand fault) (operand_stands view bound fault) listed)

where_stand : (view : View) (bound : Bound) (fault : FormFault) (tests : List (Test Operand))
    → Contains (flat_map (test_faults (operands_over view bound)) tests) fault ↔ IsWhereFault view bound tests fault
where_stand view bound fault tests =
    tests_stand (operands_over view bound) (IsOperandFault view bound) fault (operand_stands view bound fault) tests

pub select_stands : (tables : List TableSchema) (bound : Bound) (select : Select) (fault : FormFault)
    → Contains (select_faults tables bound select) fault ↔ IsSelectFault tables bound select fault
select_stands tables bound select fault =
    let view = view_of tables select.sources in
    let terms = operands_over view bound in
    let tests = flat_map (test_faults terms) select.tests in
    in_turn (unless_stands (sources_faults tables [] select.sources) (tests ++ items_faults terms select.items) fault)
    (either (sources_stand tables fault [] select.sources)
    (none_with (λ other. sources_stand tables other [] select.sources)
    (in_turn (contains_append tests (items_faults terms select.items) fault)
    (either (where_stand view bound fault select.tests) (items_stand view bound fault select.items)))))

-- a value that has a fault or isn't of its column's kind
abbrev IsMisfit : Bound → FormFault → ColumnSchema × ValueSpecification → Type 0
IsMisfit bound fault side = IsUnwanted (values bound) (IsValueFault bound) side.0.kind side.1 fault

values_stand : (bound : Bound) (fault : FormFault) (columns : List ColumnSchema) (all : List ValueSpecification)
    → Contains (values_faults bound columns all) fault ↔ Any (IsMisfit bound fault) (zip columns all)
values_stand bound fault [] all = (λ h. absurd (none_there h), λ h. absurd (any_nil (IsMisfit bound fault) h))
values_stand bound fault (column ∷ columns) [] =
    (λ h. absurd (none_there h), λ h. absurd (any_nil (IsMisfit bound fault) h))
values_stand bound fault (column ∷ columns) (value ∷ more) =
    in_turn (contains_append (wanted_faults (values bound) column.kind value) (values_faults bound columns more) fault)
    (in_turn (either
    (wanted_stands (values bound) (IsValueFault bound) fault (value_stands bound fault) column.kind value)
    (values_stand bound fault columns more))
    (turned (any_cons (IsMisfit bound fault) (column, value) (zip columns more))))

pub insert_stands : (tables : List TableSchema) (bound : Bound) (insert : Insert) (fault : FormFault)
    → Contains (insert_faults tables bound insert) fault ↔ IsInsertFault tables bound insert fault
insert_stands tables bound insert fault =
    table_stands tables insert.table fault _ _ (λ found.
    in_turn (contains_append (faults_where (not (length insert.values == length found.1.columns)) (Arity insert.place))
    (values_faults bound found.1.columns insert.values) fault)
    (either (number_stands (length insert.values) (length found.1.columns) (Arity insert.place) fault)
    (values_stand bound fault found.1.columns insert.values)))

pub delete_stands : (tables : List TableSchema) (bound : Bound) (delete : Delete) (fault : FormFault)
    → Contains (delete_faults tables bound delete) fault ↔ IsDeleteFault tables bound delete fault
delete_stands tables bound delete fault =
    table_stands tables delete.table fault _ _ (λ found.
    where_stand (table_view delete.table.name found.1) bound fault delete.tests)

module _ (view : View) (bound : Bound) (columns : List ColumnSchema) (fault : FormFault) where
  abbrev terms : Terms Operand
  terms = operands_over view bound

  assignment_stands : (earlier : List Name) (assignment : Assignment)
      → Contains (assignment_faults terms columns earlier assignment) fault
      ↔ IsAssignmentFault view bound columns earlier assignment fault
  assignment_stands earlier assignment =
      let name = assignment.column.name in
      let right = assignment.expression in
      let twice = Repeated assignment.column.place in
      let wrong = WrongKind (expression_place operand_place right) in
      in_turn (at_stands (column_named columns name) (NoColumn assignment.column.place) fault (λ column.
      faults_where (is_among earlier name) twice
      ++ (expression_faults terms right ++ kinds_faults (Some column.1) (expression_kind terms right) wrong)))
      (either (holding (no_column columns name)) (there_with (λ column.
      let compared = kinds_faults (Some column.1) (expression_kind terms right) wrong in
      in_turn (contains_append (faults_where (is_among earlier name) twice) (expression_faults terms right ++ compared)
      fault)
      (either (in_turn (where_stands (is_among earlier name) twice fault) (holding (among earlier name)))
      (in_turn (contains_append (expression_faults terms right) compared fault)
      (either (expression_stands terms (IsOperandFault view bound) fault (operand_stands view bound fault) right)
      (kinds_stand (Some column.1) (expression_kind terms right) wrong fault)))))))

  abbrev name_of : Assignment → Name
  name_of assignment = assignment.column.name

  -- an assignment has a fault, those before it having named these columns
  abbrev IsFaultBehind : List Name → List Assignment → Assignment → Type 0
  IsFaultBehind earlier before assignment =
      IsAssignmentFault view bound columns (earlier ++ map name_of before) assignment fault

  assignments_stand : (assignments : List Assignment) (earlier : List Name)
      → Contains (assignments_faults terms columns earlier assignments) fault
      ↔ CutWhere (IsFaultBehind earlier) assignments
  assignments_stand [] earlier = (λ h. absurd (none_there h), λ h. absurd (cut_nil (IsFaultBehind earlier) h))
  assignments_stand (assignment ∷ more) earlier =
      let next = earlier ++ assignment.column.name ∷ [] in
      in_turn (contains_append (assignment_faults terms columns earlier assignment)
      (assignments_faults terms columns next more) fault)
      (in_turn (either (in_turn (assignment_stands earlier assignment)
      (same_by (λ names. IsAssignmentFault view bound columns names assignment fault) (sym (append-nil earlier))))
      (in_turn (assignments_stand more next)
      (cut_same (IsFaultBehind next) (λ before. IsFaultBehind earlier (assignment ∷ before))
      (λ before later. same_by (λ names. IsAssignmentFault view bound columns names later fault)
      (behind name_of earlier assignment before)) more)))
      (turned (cut_cons (IsFaultBehind earlier) assignment more)))

pub update_stands : (tables : List TableSchema) (bound : Bound) (update : Update) (fault : FormFault)
    → Contains (update_faults tables bound update) fault ↔ IsUpdateFault tables bound update fault
update_stands tables bound update fault =
    table_stands tables update.table fault _ _ (λ found.
    let view = table_view update.table.name found.1 in
    let tests = flat_map (test_faults (operands_over view bound)) update.tests in
    in_turn (contains_append tests (assignments_faults (operands_over view bound) found.1.columns [] update.assignments)
    fault)
    (either (where_stand view bound fault update.tests)
    (assignments_stand view bound found.1.columns fault update.assignments [])))

pub set_stands : (bound : Bound) (set : Set) (fault : FormFault)
    → Contains (set_faults bound set) fault ↔ IsSetFault bound set fault
set_stands bound set fault =
    expression_stands (values bound) (IsValueFault bound) fault (value_stands bound fault) set.expression
