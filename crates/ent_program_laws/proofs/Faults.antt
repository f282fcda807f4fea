-- The faults of ordinary statements are the same, places aside.
use Rattle.std.proofs.Common.{◌≡◌, ℕ, Bool, not, ◌==◌, List, [], ◌∷◌, ◌++◌, length, map, flat_map, refl, ap, ◌∙◌}
use Rattle.std.proofs.Common.{Option, Some, None, is_none}
use Rattle.std.proofs.lemmas.List.{length-map}
use Rattle.ent_value.specs.declared.value.Kind.{Kind}
use Rattle.ent_tree.specs.Places.{unplaced_specification, unplaced_operand, unplaced_expression}
use Rattle.ent_tree.specs.Places.{unplaced_test, unplaced_source, unplaced_items, unplaced_tests, unplaced_select}
use Rattle.ent_tree.specs.Places.{unplaced_insert, unplaced_delete, unplaced_assignment, unplaced_update, unplaced_set}
use Rattle.ent_tree.specs.declared.operand.Identifier.{Identifier}
use Rattle.ent_tree.specs.declared.operand.Operand.{Operand}
use Rattle.ent_tree.specs.declared.operand.Test.{Test}
use Rattle.ent_tree.specs.declared.operand.ValueSpecification.{ValueSpecification}
use Rattle.ent_tree.specs.declared.select.Items.{Items}
use Rattle.ent_tree.specs.declared.select.Items.TheVariants as items
use Rattle.ent_tree.specs.declared.select.Select.{Select}
use Rattle.ent_tree.specs.declared.select.Source.{Source}
use Rattle.ent_tree.specs.declared.statement.Assignment.{Assignment}
use Rattle.ent_tree.specs.declared.statement.Delete.{Delete}
use Rattle.ent_tree.specs.declared.statement.Insert.{Insert}
use Rattle.ent_tree.specs.declared.statement.Set.{Set}
use Rattle.ent_tree.specs.declared.statement.Update.{Update}
use Rattle.ent_semantics.specs.Database.{Name, is_among}
use Rattle.ent_semantics.specs.Term.{source_name}
use Rattle.ent_form.specs.AllFaults.{Terms, View, faults_where, unless_any, kinds_faults, values}
use Rattle.ent_form.specs.AllFaults.{operands_over, wanted_faults, test_faults, expression_faults, expression_kind}
use Rattle.ent_form.specs.AllFaults.{columns_there, view_of, sources_faults, items_faults, select_faults, values_faults}
use Rattle.ent_form.specs.AllFaults.{insert_faults, table_view, delete_faults, assignment_faults, assignments_faults}
use Rattle.ent_form.specs.AllFaults.{update_faults, set_faults}
use Rattle.ent_form.specs.Catalogue.{table_named, column_named}
use Rattle.ent_form.specs.Kinds.{Bound}
use Rattle.ent_form.specs.Lookup.{operand_place, expression_place}
use Rattle.ent_form.specs.Scope.{source_place}
use Rattle.ent_form.specs.declared.catalogue.ColumnSchema.{ColumnSchema}
use Rattle.ent_form.specs.declared.catalogue.TableSchema.{TableSchema}
use Rattle.ent_form.specs.declared.fault.FormFault.{FormFault}
use Rattle.ent_form.specs.declared.fault.FormFault.TheVariants.{NoTable, NoColumn, Arity, WrongKind, Ambiguous}
use Rattle.ent_form.specs.declared.fault.FormFault.TheVariants.{Repeated}
use Rattle.ent_program_laws.proofs.FaultLists.{AreBare, both_bare, where_bare, at_bare, unless_bare, kinds_bare}
use Rattle.ent_program_laws.proofs.FaultLists.{flat_bare}
use Rattle.ent_program_laws.proofs.TermFaults.{AreBareTerms, values_bare, operands_bare, wanted_bare, test_bare}
use Rattle.ent_program_laws.proofs.TermFaults.{expression_bare, expression_kind_same, expression_place_none}
use Rattle.ent_program_laws.proofs.TermFaults.{operand_place_none}
use Rattle.ent_program_laws.proofs.Terms.{source_name_same}
use Rattle.ent_program_laws.proofs.Through.{map_through, flat_through}

-- ---- sources

pub view_same : (tables : List TableSchema) (sources : List Source)
    → view_of tables (map unplaced_source sources) ≡ view_of tables sources
view_same tables sources =
    let names = map_through unplaced_source source_name source_name source_name_same sources in
    let columns = flat_through unplaced_source
    (λ source. columns_there (source_name source) (table_named tables source.table.name))
    (λ source. columns_there (source_name source) (table_named tables source.table.name))
    (λ source. ap (λ (name : Name). columns_there name (table_named tables source.table.name))
    (source_name_same source)) sources in
    λ i. record { names = names i; columns = columns i }

place_or_alias : (table : Identifier) (alias : Option Identifier)
    → source_place (unplaced_source (record { table = table; alias = alias })) ≡ 0
place_or_alias table None = refl
place_or_alias table (Some alias) = refl

sources_bare : (tables : List TableSchema) (earlier : List Name) (sources : List Source)
    → AreBare (sources_faults tables earlier (map unplaced_source sources)) (sources_faults tables earlier sources)
sources_bare tables earlier [] = refl
sources_bare tables earlier (source ∷ more) =
    both_bare missing (taken ++ later) (faults_where is_missing (NoTable 0)) (bare_taken ++ bare_later)
    (where_bare is_missing (NoTable source.table.place))
    (both_bare taken later bare_taken bare_later
    ((λ i. faults_where (is_among earlier (source_name_same source i))
    (Ambiguous (place_or_alias source.table source.alias i)))
    ∙ where_bare (is_among earlier (source_name source)) (Ambiguous (source_place source)))
    (ap (λ (name : Name). sources_faults tables (earlier ++ name ∷ []) (map unplaced_source more))
    (source_name_same source)
    ∙ sources_bare tables (earlier ++ source_name source ∷ []) more))
  where
    is_missing : Bool
    is_missing = is_none (table_named tables source.table.name)

    missing : List FormFault
    missing = faults_where is_missing (NoTable source.table.place)

    taken : List FormFault
    taken = faults_where (is_among earlier (source_name source)) (Ambiguous (source_place source))

    later : List FormFault
    later = sources_faults tables (earlier ++ source_name source ∷ []) more

    bare_taken : List FormFault
    bare_taken = faults_where (is_among earlier (source_name (unplaced_source source)))
        (Ambiguous (source_place (unplaced_source source)))

    bare_later : List FormFault
    bare_later = sources_faults tables (earlier ++ source_name (unplaced_source source) ∷ []) (map unplaced_source more)

-- ---- SELECT

items_bare : (terms : Terms Operand) → AreBareTerms unplaced_operand terms → (shown : Items)
    → AreBare (items_faults terms (unplaced_items shown)) (items_faults terms shown)
items_bare terms bare items.All = refl
items_bare terms bare (items.Listed listed) = flat_bare unplaced_operand terms.faults terms.faults bare.faults listed

pub tests_bare : (view : View) (bound : Bound) (tests : List (Test Operand))
    → AreBare (flat_map (test_faults (operands_over view bound)) (unplaced_tests tests))
    (flat_map (test_faults (operands_over view bound)) tests)
tests_bare view bound tests =
    flat_bare (unplaced_test unplaced_operand) (test_faults (operands_over view bound))
    (test_faults (operands_over view bound))
    (test_bare unplaced_operand (operands_over view bound) (operands_bare view bound)) tests

pub select_bare : (tables : List TableSchema) (bound : Bound) (select : Select)
    → AreBare (select_faults tables bound (unplaced_select select)) (select_faults tables bound select)
select_bare tables bound select =
    ap (λ (view : View). unless_any bare_sources (bare_rest view)) (view_same tables select.sources)
    ∙ unless_bare (sources_faults tables [] select.sources) (rest view) bare_sources (bare_rest view)
    (sources_bare tables [] select.sources)
    (both_bare (flat_map (test_faults (operands_over view bound)) select.tests)
    (items_faults (operands_over view bound) select.items)
    (flat_map (test_faults (operands_over view bound)) (unplaced_tests select.tests))
    (items_faults (operands_over view bound) (unplaced_items select.items))
    (tests_bare view bound select.tests)
    (items_bare (operands_over view bound) (operands_bare view bound) select.items))
  where
    view : View
    view = view_of tables select.sources

    rest : View → List FormFault
    rest view =
        flat_map (test_faults (operands_over view bound)) select.tests
        ++ items_faults (operands_over view bound) select.items

    bare_sources : List FormFault
    bare_sources = sources_faults tables [] (map unplaced_source select.sources)

    bare_rest : View → List FormFault
    bare_rest view =
        flat_map (test_faults (operands_over view bound)) (unplaced_tests select.tests)
        ++ items_faults (operands_over view bound) (unplaced_items select.items)

-- ---- the other statements

row_bare : (bound : Bound) (columns : List ColumnSchema) (row : List ValueSpecification)
    → AreBare (values_faults bound columns (map unplaced_specification row)) (values_faults bound columns row)
row_bare bound [] row = refl
row_bare bound (column ∷ columns) [] = refl
row_bare bound (column ∷ columns) (value ∷ more) =
    both_bare (wanted_faults (values bound) column.kind value) (values_faults bound columns more)
    (wanted_faults (values bound) column.kind (unplaced_specification value))
    (values_faults bound columns (map unplaced_specification more))
    (wanted_bare unplaced_specification (values bound) (values_bare bound) column.kind value)
    (row_bare bound columns more)

pub arity_bare : {A : Type 0} (unplaced : A → A) (xs : List A) (wanted place : ℕ)
    → AreBare (faults_where (not (length (map unplaced xs) == wanted)) (Arity 0))
    (faults_where (not (length xs == wanted)) (Arity place))
arity_bare unplaced xs wanted place =
    ap (λ (count : ℕ). faults_where (not (count == wanted)) (Arity 0)) (length-map xs unplaced)
    ∙ where_bare (not (length xs == wanted)) (Arity place)

pub insert_bare : (tables : List TableSchema) (bound : Bound) (insert : Insert)
    → AreBare (insert_faults tables bound (unplaced_insert insert)) (insert_faults tables bound insert)
insert_bare tables bound insert =
    at_bare (table_named tables insert.table.name) (NoTable insert.table.place)
    (λ found. faults_where (not (length (map unplaced_specification insert.values) == length found.1.columns)) (Arity 0)
    ++ values_faults bound found.1.columns (map unplaced_specification insert.values))
    (λ found. faults_where (not (length insert.values == length found.1.columns)) (Arity insert.place)
    ++ values_faults bound found.1.columns insert.values)
    (λ found. both_bare (faults_where (not (length insert.values == length found.1.columns)) (Arity insert.place))
    (values_faults bound found.1.columns insert.values)
    (faults_where (not (length (map unplaced_specification insert.values) == length found.1.columns)) (Arity 0))
    (values_faults bound found.1.columns (map unplaced_specification insert.values))
    (arity_bare unplaced_specification insert.values (length found.1.columns) insert.place)
    (row_bare bound found.1.columns insert.values))

pub delete_bare : (tables : List TableSchema) (bound : Bound) (delete : Delete)
    → AreBare (delete_faults tables bound (unplaced_delete delete)) (delete_faults tables bound delete)
delete_bare tables bound delete =
    at_bare (table_named tables delete.table.name) (NoTable delete.table.place)
    (λ found. flat_map (test_faults (operands_over (table_view delete.table.name found.1) bound))
    (unplaced_tests delete.tests))
    (λ found. flat_map (test_faults (operands_over (table_view delete.table.name found.1) bound)) delete.tests)
    (λ found. tests_bare (table_view delete.table.name found.1) bound delete.tests)

module _ (terms : Terms Operand) (bare : AreBareTerms unplaced_operand terms) (columns : List ColumnSchema) where
  assigned_kind_bare : (kind : Kind) (assignment : Assignment)
      → AreBare (kinds_faults (Some kind)
      (expression_kind terms (unplaced_expression unplaced_operand assignment.expression))
      (WrongKind (expression_place operand_place (unplaced_expression unplaced_operand assignment.expression))))
      (kinds_faults (Some kind) (expression_kind terms assignment.expression)
      (WrongKind (expression_place operand_place assignment.expression)))
  assigned_kind_bare kind assignment =
      let same = expression_kind_same unplaced_operand terms bare assignment.expression in
      let none = expression_place_none unplaced_operand operand_place operand_place_none assignment.expression in
      (λ i. kinds_faults (Some kind) (same i) (WrongKind (none i)))
      ∙ kinds_bare (Some kind) (expression_kind terms assignment.expression)
      (WrongKind (expression_place operand_place assignment.expression))

  assigned_bare : (earlier : List Name) (assignment : Assignment) (column : ℕ × Kind)
      → AreBare (faults_where (is_among earlier assignment.column.name) (Repeated 0)
      ++ (expression_faults terms (unplaced_expression unplaced_operand assignment.expression)
      ++ kinds_faults (Some column.1)
      (expression_kind terms (unplaced_expression unplaced_operand assignment.expression))
      (WrongKind (expression_place operand_place (unplaced_expression unplaced_operand assignment.expression)))))
      (faults_where (is_among earlier assignment.column.name) (Repeated assignment.column.place)
      ++ (expression_faults terms assignment.expression
      ++ kinds_faults (Some column.1) (expression_kind terms assignment.expression)
      (WrongKind (expression_place operand_place assignment.expression))))
  assigned_bare earlier assignment column =
      both_bare _ _ _ _ (where_bare (is_among earlier assignment.column.name) (Repeated assignment.column.place))
      (both_bare _ _ _ _ (expression_bare unplaced_operand terms bare assignment.expression)
      (assigned_kind_bare column.1 assignment))

  assignment_bare : (earlier : List Name) (assignment : Assignment)
      → AreBare (assignment_faults terms columns earlier (unplaced_assignment assignment))
      (assignment_faults terms columns earlier assignment)
  assignment_bare earlier assignment =
      at_bare (column_named columns assignment.column.name) (NoColumn assignment.column.place) _ _
      (assigned_bare earlier assignment)

  assignments_bare : (earlier : List Name) (assignments : List Assignment)
      → AreBare (assignments_faults terms columns earlier (map unplaced_assignment assignments))
      (assignments_faults terms columns earlier assignments)
  assignments_bare earlier [] = refl
  assignments_bare earlier (assignment ∷ more) =
      both_bare (assignment_faults terms columns earlier assignment)
      (assignments_faults terms columns (earlier ++ assignment.column.name ∷ []) more)
      (assignment_faults terms columns earlier (unplaced_assignment assignment))
      (assignments_faults terms columns (earlier ++ assignment.column.name ∷ []) (map unplaced_assignment more))
      (assignment_bare earlier assignment) (assignments_bare (earlier ++ assignment.column.name ∷ []) more)

update_parts_bare : (bound : Bound) (update : Update) (table : TableSchema)
    → AreBare (flat_map (test_faults (operands_over (table_view update.table.name table) bound))
    (unplaced_tests update.tests)
    ++ assignments_faults (operands_over (table_view update.table.name table) bound) table.columns []
    (map unplaced_assignment update.assignments))
    (flat_map (test_faults (operands_over (table_view update.table.name table) bound)) update.tests
    ++ assignments_faults (operands_over (table_view update.table.name table) bound) table.columns []
    update.assignments)
update_parts_bare bound update table =
    both_bare _ _ _ _ (tests_bare (table_view update.table.name table) bound update.tests)
    (assignments_bare (operands_over (table_view update.table.name table) bound)
    (operands_bare (table_view update.table.name table) bound) table.columns [] update.assignments)

pub update_bare : (tables : List TableSchema) (bound : Bound) (update : Update)
    → AreBare (update_faults tables bound (unplaced_update update)) (update_faults tables bound update)
update_bare tables bound update =
    at_bare (table_named tables update.table.name) (NoTable update.table.place) _ _
    (λ found. update_parts_bare bound update found.1)

pub set_bare : (bound : Bound) (set : Set) → AreBare (set_faults bound (unplaced_set set)) (set_faults bound set)
set_bare bound set = expression_bare unplaced_specification (values bound) (values_bare bound) set.expression
