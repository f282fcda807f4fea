-- A script has the same faults over tables that are declared alike.
use Rattle.std.proofs.Common.{◌≡◌, ℕ, suc, Bool, true, false, cond, ◌==◌, not, List, [], ◌∷◌, ◌++◌, length, map, refl}
use Rattle.std.proofs.Common.{sym, ap, ◌∙◌, Option, Some, None}
use Rattle.std.specs.Prelude.{is_none}
use Rattle.std.specs.List.{flat_map}
use Rattle.std.specs.Option.{option_map}
use Rattle.ent_tree.specs.declared.declaration.Create.{Create}
use Rattle.ent_tree.specs.declared.entangled.Condition.{Condition}
use Rattle.ent_tree.specs.declared.entangled.Condition.TheVariants as conditions
use Rattle.ent_tree.specs.declared.entangled.Entangled.{Entangled}
use Rattle.ent_tree.specs.declared.entangled.Tuple.{Tuple}
use Rattle.ent_tree.specs.declared.script.Script.{Script}
use Rattle.ent_tree.specs.declared.script.Statement.{Statement}
use Rattle.ent_tree.specs.declared.script.Statement.TheVariants as statements
use Rattle.ent_tree.specs.declared.select.Select.{Select}
use Rattle.ent_tree.specs.declared.select.Source.{Source}
use Rattle.ent_tree.specs.declared.statement.Delete.{Delete}
use Rattle.ent_tree.specs.declared.statement.Insert.{Insert}
use Rattle.ent_tree.specs.declared.statement.Update.{Update}
use Rattle.ent_semantics.specs.Database.{Name, same_name, is_among}
use Rattle.ent_semantics.specs.Term.{source_name}
use Rattle.ent_form.specs.AllFaults.{assignments_faults, columns_there, delete_faults, faults_at, faults_where}
use Rattle.ent_form.specs.AllFaults.{insert_faults, items_faults, operands_over, select_faults, sources_faults}
use Rattle.ent_form.specs.AllFaults.{table_view, test_faults, unless_any, update_faults, values_faults, view_of}
use Rattle.ent_form.specs.Catalogue.{schemas_of, table_from, table_named, table_schema}
use Rattle.ent_form.specs.Entangled.{noted_items}
use Rattle.ent_form.specs.EntangledFaults.{body_variables, demanded_from, demanding_unless, entangled_faults}
use Rattle.ent_form.specs.EntangledFaults.{members_faults, membership_faults, memberships_faults, offer_faults}
use Rattle.ent_form.specs.EntangledFaults.{others_faults, select_kinds, shown_kinds, term_kind}
use Rattle.ent_form.specs.AllFaults.{repeated_names}
use Rattle.ent_form.specs.Kinds.{Bound, none_bound}
use Rattle.ent_form.specs.Scope.{Visible, source_place, visible}
use Rattle.ent_form.specs.ScriptFaults.{bound_after, items_bind, script_faults, statement_faults}
use Rattle.ent_form.specs.ScriptFaults.{statements_faults}
use Rattle.ent_form.specs.declared.catalogue.TableSchema.{TableSchema}
use Rattle.ent_form.specs.declared.fault.FormFault.{FormFault}
use Rattle.ent_form.specs.declared.fault.FormFault.TheVariants.{Ambiguous, Arity, NoTable}
use Rattle.ent_history.specs.Told.{declared_under}
use Rattle.ent_report_laws.specs.Alike.{AreDeclaredAlike}

-- ---- the table of a name, without its number

abbrev pub found_schema : Option (ℕ × TableSchema) → Option TableSchema
found_schema found = option_map (λ (x : ℕ × TableSchema). x.1) found

abbrev first_schema : List Create → Option TableSchema
first_schema [] = None
first_schema (create ∷ more) = Some (table_schema create)

schema_under : (number : ℕ) (tables : List Create) (name : Name)
    → found_schema (table_from number (schemas_of tables) name) ≡ first_schema (declared_under tables name)
schema_under number [] name = refl
schema_under number (create ∷ more) name =
    by (same_name create.name.name name) (schema_under (suc number) more name)
  where
    by : (b : Bool)
        → found_schema (table_from (suc number) (schemas_of more) name) ≡ first_schema (declared_under more name)
        → found_schema (cond b (Some (number, table_schema create)) (table_from (suc number) (schemas_of more) name))
        ≡ first_schema (cond b (create ∷ []) (declared_under more name))
    by true rest = refl
    by false rest = rest

abbrev pub AreFoundAlike : List TableSchema → List TableSchema → Type 0
AreFoundAlike first second =
    (name : Name) → found_schema (table_named first name) ≡ found_schema (table_named second name)

pub found_alike : (first second : List Create) → AreDeclaredAlike first second
    → AreFoundAlike (schemas_of first) (schemas_of second)
found_alike first second alike name =
    schema_under 0 first name ∙ ap first_schema (alike name) ∙ sym (schema_under 0 second name)

faults_by : (found : Option (ℕ × TableSchema)) (fault : FormFault) (faults : TableSchema → List FormFault)
    → faults_at found fault (λ table. faults table.1) ≡ faults_at (found_schema found) fault faults
faults_by (Some table) fault faults = refl
faults_by None fault faults = refl

abbrev schema_columns : Name → Option TableSchema → List Visible
schema_columns name None = []
schema_columns name (Some table) = map (visible name) table.columns

columns_by : (name : Name) (found : Option (ℕ × TableSchema))
    → columns_there name found ≡ schema_columns name (found_schema found)
columns_by name (Some table) = refl
columns_by name None = refl

none_by : (found : Option (ℕ × TableSchema)) → is_none found ≡ is_none (found_schema found)
none_by (Some table) = refl
none_by None = refl

module _ (first second : List TableSchema) (same : AreFoundAlike first second) where
  same_faults : (name : Name) (fault : FormFault) (faults : TableSchema → List FormFault)
      → faults_at (table_named first name) fault (λ table. faults table.1)
      ≡ faults_at (table_named second name) fault (λ table. faults table.1)
  same_faults name fault faults =
      faults_by (table_named first name) fault faults
      ∙ ap (λ (found : Option TableSchema). faults_at found fault faults) (same name)
      ∙ sym (faults_by (table_named second name) fault faults)

  same_columns : (source name : Name)
      → columns_there source (table_named first name) ≡ columns_there source (table_named second name)
  same_columns source name =
      columns_by source (table_named first name)
      ∙ ap (schema_columns source) (same name)
      ∙ sym (columns_by source (table_named second name))

  same_absence : (name : Name) → is_none (table_named first name) ≡ is_none (table_named second name)
  same_absence name =
      none_by (table_named first name)
      ∙ ap (λ (found : Option TableSchema). is_none found) (same name)
      ∙ sym (none_by (table_named second name))

  -- ---- ordinary statements

  same_view : (sources : List Source) → view_of first sources ≡ view_of second sources
  same_view sources = λ i. record {
    names = map source_name sources;
    columns = flat_map (λ source. same_columns (source_name source) source.table.name i) sources;
  }

  same_sources : (earlier : List Name) (sources : List Source)
      → sources_faults first earlier sources ≡ sources_faults second earlier sources
  same_sources earlier [] = refl
  same_sources earlier (source ∷ more) =
      λ i. faults_where (same_absence source.table.name i) (NoTable source.table.place)
      ++ (faults_where (is_among earlier (source_name source)) (Ambiguous (source_place source))
      ++ same_sources (earlier ++ source_name source ∷ []) more i)

  same_select : (bound : Bound) (select : Select) → select_faults first bound select ≡ select_faults second bound select
  same_select bound select =
      λ i. unless_any (same_sources [] select.sources i)
      (flat_map (test_faults (operands_over (same_view select.sources i) bound)) select.tests
      ++ items_faults (operands_over (same_view select.sources i) bound) select.items)

  same_insert : (bound : Bound) (insert : Insert) → insert_faults first bound insert ≡ insert_faults second bound insert
  same_insert bound insert =
      same_faults insert.table.name (NoTable insert.table.place) (λ table.
      faults_where (not (length insert.values == length table.columns)) (Arity insert.place)
      ++ values_faults bound table.columns insert.values)

  same_delete : (bound : Bound) (delete : Delete) → delete_faults first bound delete ≡ delete_faults second bound delete
  same_delete bound delete =
      same_faults delete.table.name (NoTable delete.table.place) (λ table.
      flat_map (test_faults (operands_over (table_view delete.table.name table) bound)) delete.tests)

  same_update : (bound : Bound) (update : Update) → update_faults first bound update ≡ update_faults second bound update
  same_update bound update =
      same_faults update.table.name (NoTable update.table.place) (λ table.
      flat_map (test_faults (operands_over (table_view update.table.name table) bound)) update.tests
      ++ assignments_faults (operands_over (table_view update.table.name table) bound) table.columns []
      update.assignments)

  -- ---- entangled statements

  same_kinds : (bound : Bound) (select : Select) → select_kinds first bound select ≡ select_kinds second bound select
  same_kinds bound select = λ i. shown_kinds (same_view select.sources i) bound select.items

  same_demands : (bound demanded : Bound) (all : List Condition)
      → demanded_from first bound demanded all ≡ demanded_from second bound demanded all
  same_demands bound demanded [] = refl
  same_demands bound demanded (conditions.InSelect tuple select ∷ more) =
      λ i. same_demands bound
      (demanding_unless (same_select bound select i) demanded (same_kinds bound select i) tuple.terms) more i
  same_demands bound demanded (conditions.InAnswer tuple relation ∷ more) = same_demands bound demanded more
  same_demands bound demanded (conditions.Test test ∷ more) = same_demands bound demanded more

  same_membership : (bound demanded : Bound) (tuple : Tuple) (select : Select)
      → membership_faults first bound demanded tuple select ≡ membership_faults second bound demanded tuple select
  same_membership bound demanded tuple select =
      λ i. unless_any (same_select bound select i)
      (faults_where (not (length tuple.terms == length (same_kinds bound select i))) (Arity tuple.place)
      ++ members_faults bound demanded (same_kinds bound select i) tuple.terms)

  same_memberships : (bound demanded : Bound) (all : List Condition)
      → memberships_faults first bound demanded all ≡ memberships_faults second bound demanded all
  same_memberships bound demanded [] = refl
  same_memberships bound demanded (conditions.InSelect tuple select ∷ more) =
      λ i. same_membership bound demanded tuple select i
      ++ same_memberships bound
      (demanding_unless (same_select bound select i) demanded (same_kinds bound select i) tuple.terms) more i
  same_memberships bound demanded (conditions.InAnswer tuple relation ∷ more) = same_memberships bound demanded more
  same_memberships bound demanded (conditions.Test test ∷ more) = same_memberships bound demanded more

  same_entangled : (bound : Bound) (entangled : Entangled)
      → entangled_faults first bound entangled ≡ entangled_faults second bound entangled
  same_entangled bound entangled =
      λ i. same_memberships bound none_bound entangled.conditions i
      ++ (offer_faults (body_variables entangled.conditions) bound [] [] entangled.items
      ++ (repeated_names [] entangled.relations
      ++ others_faults (body_variables entangled.conditions) (same_demands bound none_bound entangled.conditions i)
      bound (noted_items [] entangled.items) entangled.conditions))

  -- ---- scripts

  same_statement : (bound : Bound) (statement : Statement)
      → statement_faults first bound statement ≡ statement_faults second bound statement
  same_statement bound (statements.Select select) = same_select bound select
  same_statement bound (statements.Entangled entangled) = same_entangled bound entangled
  same_statement bound (statements.Insert insert) = same_insert bound insert
  same_statement bound (statements.Delete delete) = same_delete bound delete
  same_statement bound (statements.Update update) = same_update bound update
  same_statement bound (statements.Set set) = refl

  same_bound : (bound : Bound) (statement : Statement)
      → bound_after first bound statement ≡ bound_after second bound statement
  same_bound bound (statements.Select select) = refl
  same_bound bound (statements.Entangled entangled) =
      λ i. items_bind (term_kind (same_demands bound none_bound entangled.conditions i) bound) bound entangled.items
  same_bound bound (statements.Insert insert) = refl
  same_bound bound (statements.Delete delete) = refl
  same_bound bound (statements.Update update) = refl
  same_bound bound (statements.Set set) = refl

  same_statements : (bound : Bound) (all : List Statement)
      → statements_faults first bound all ≡ statements_faults second bound all
  same_statements bound [] = refl
  same_statements bound (statement ∷ more) =
      λ i. same_statement bound statement i ++ same_statements (same_bound bound statement i) more i

pub same_script : (first second : List Create) → AreDeclaredAlike first second → (script : Script)
    → script_faults (schemas_of first) script ≡ script_faults (schemas_of second) script
same_script first second alike script =
    same_statements (schemas_of first) (schemas_of second) (found_alike first second alike) none_bound
    script.statements
