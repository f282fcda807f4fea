-- UPDATE resolved.
use Rattle.std.proofs.Common.{◌≡◌, ℕ, suc, Bool, true, false, ◌&&◌, List, [], ◌∷◌, map, length, Option, Some}
use Rattle.std.proofs.Common.{None}
use Rattle.std.proofs.Common.{Result, Ok, refl, sym, ap, subst, ◌∙◌, arith}
use Rattle.std.specs.Prelude.{is_some, if◌then◌else◌}
use Rattle.std.specs.List.{AllByRecursion, IsDistinct, list_all, filter_map, cons_option}
use Rattle.std.proofs.lemmas.List.{length-map}
use Rattle.ent_lists.specs.Elements.{all_by}
use Rattle.ent_lists.specs.Sets as set
use Rattle.ent_value.specs.declared.value.Value.{Value}
use Rattle.ent_tree.specs.declared.declaration.Create.{Create}
use Rattle.ent_tree.specs.declared.statement.Update.{Update}
use Rattle.ent_semantics.specs.declared.operand.Known.{Known}
use Rattle.ent_semantics.specs.declared.statement.Statement.{Statement}
use Rattle.ent_semantics.specs.Form.{Tables, table_numbered, known_worth, operand_worth, form_meaning}
use Rattle.ent_semantics.specs.declared.answer.Failure.{Failure}
use Rattle.ent_semantics.specs.Change.{all_there, matched, unmatched, updated, image}
use Rattle.ent_semantics.specs.Database.{Name, Rows, Environment, same_name, table_named}
use Rattle.ent_semantics.specs.Effect.{Effect, or_overflow, changed, replacement}
use Rattle.ent_semantics.specs.Entangled.{Valuation}
use Rattle.ent_semantics.specs.Selection.{meets}
use Rattle.ent_semantics.specs.Statement.{table_worth}
use Rattle.ent_semantics.specs.Term.{SourceColumn, operand_value, expression_value, table_columns}
use Rattle.ent_semantics.proofs.EachRow.{of_ascending, to_ascending, each_retained}
use Rattle.ent_form.specs.declared.catalogue.ColumnSchema.{ColumnSchema}
use Rattle.ent_form.specs.declared.catalogue.TableSchema.{TableSchema}
use Rattle.ent_form.specs.declared.fault.FormFault.TheVariants.{NoTable}
use Rattle.ent_form.specs.Catalogue as catalogue
use Rattle.ent_form.specs.Catalogue.{column_schema, table_schema, schemas_of, table_from}
use Rattle.ent_form.specs.Kinds.{Bound}
use Rattle.ent_form.specs.Ordinary.{tests_in, image_in, update_in}
use Rattle.ent_form.specs.Scope.{table_in, table_scope}
use Rattle.ent_form.proofs.Heads.{found_of, there_of}
use Rattle.ent_form.specs.Tables.{database_of, AreWide, HaveDistinctColumns, effect_of}
use Rattle.ent_form.proofs.Images.{names_of, image_same}
use Rattle.ent_form.proofs.Putting.{put_table, replacement_same}
use Rattle.ent_form.proofs.Selecting.{said, meant, where_same}
use Rattle.ent_form.proofs.Sources.{name_of, OfWidth, names_seen, names_again}
use Rattle.ent_form.proofs.ResolvedSteps.{one_answer}

-- ---- rows of a width

-- the rows that are kept have the width of all
kept_wide : (width : ℕ) (rows : Rows) (test : List Value → Bool) → OfWidth width rows
    → OfWidth width (set.retain rows test)
kept_wide width rows test wide =
    to_ascending (λ row. length row ≡ width) (set.retain rows test)
    (each_retained (λ row. length row ≡ width) rows test (of_ascending (λ row. length row ≡ width) rows wide))

-- ---- images that agree on rows

all_same : (one other : List Value → Option (List Value)) (rows : List (List Value))
    → AllByRecursion (λ row. one row ≡ other row) rows
    → list_all (λ row. is_some (one row)) rows ≡ list_all (λ row. is_some (other row)) rows
all_same one other [] h = refl
all_same one other (row ∷ rows) h = λ i. is_some (h.0 i) && all_same one other rows h.1 i

images_same : (one other : List Value → Option (List Value)) (rows : List (List Value))
    → AllByRecursion (λ row. one row ≡ other row) rows → filter_map one rows ≡ filter_map other rows
images_same one other [] h = refl
images_same one other (row ∷ rows) h = λ i. cons_option (h.0 i) (images_same one other rows h.1 i)

updated_alike : (matches : List Value → Bool) (one other : List Value → Option (List Value)) (rows : Rows) (width : ℕ)
    → OfWidth width rows → ((row : List Value) → length row ≡ width → one row ≡ other row)
    → updated matches one rows ≡ updated matches other rows
updated_alike matches one other rows width wide alike =
    let old = set.ascending (matched matches rows) in
    let each : AllByRecursion (λ row. one row ≡ other row) old =
    all_by (λ row. length row ≡ width) (λ row. one row ≡ other row) old alike (kept_wide width rows matches wide) in
    λ i. if all_same one other old each i
    then Some (set.insert_all (unmatched matches rows) (images_same one other old each i)) else None

-- ---- the columns of a table are distinct

distinct_at : (creates : List Create) (first : ℕ) (name : Name) (found : ℕ × TableSchema) → HaveDistinctColumns creates
    → table_from first (schemas_of creates) name ≡ Some found → IsDistinct same_name (names_of found.1.columns)
distinct_at [] first name found distinct e = cc
distinct_at (create ∷ more) first name found distinct e =
    elim (same_name create.name.name name) as (λ b.
    (if b then Some (first, table_schema create) else table_from (suc first) (schemas_of more) name) ≡ Some found
    → IsDistinct same_name (names_of found.1.columns)) [
      | true ↦ λ here.
          subst (λ (found : ℕ × TableSchema). IsDistinct same_name (names_of found.1.columns))
          (some_same (first, table_schema create) found here)
          (subst (λ names. IsDistinct same_name names) (sym (names_again create.columns)) distinct.0)
      | false ↦ λ later. distinct_at more (suc first) name found distinct.1 later
    ] e
  where
    some_same : (x y : ℕ × TableSchema) → Some x ≡ Some y → x ≡ y
    some_same x y e = cc

-- ---- UPDATE

module _ (creates : List Create) (tables : Tables) (fitting : AreWide creates tables)
    (apart : HaveDistinctColumns creates)
    (environment : Environment) (valuation : Valuation) (bound : Bound) where
  abbrev meaning : Statement Known → Result (Effect Tables) Failure
  meaning form = form_meaning known_worth form valuation tables environment

  pub update_same : (update : Update) (form : Statement Known)
      → update_in (schemas_of creates) bound update ≡ Ok form
      → replacement (table_named update.table.name) (meets (table_worth creates environment update.table.name)
      update.tests)
      (image (table_worth creates environment update.table.name) update.assignments
      (table_columns creates update.table.name update.table.name))
      (database_of creates tables) environment
      ≡ effect_of creates (meaning form)
  unfolding update_in
  update_same update form e =
      let name = update.table.name in
      let found = found_of (table_in (schemas_of creates) update.table) _ form e in
      let there_it_is = there_of (catalogue.table_named (schemas_of creates) name) (NoTable update.table.place)
      found.0 found.1 in
      let scope = table_scope name found.0 in
      let schema = found.0.1.columns in
      let tests = found_of (tests_in scope bound update.tests) _ form found.2 in
      let made = found_of (image_in scope bound schema update.assignments) _ form tests.2 in
      let table = put_table creates tables name found.0 fitting there_it_is in
      let columns : table_columns creates name name ≡ map name_of scope.columns =
      ap (map (λ column. record { source = name; column = column })) table.here.columns
      ∙ sym (names_seen name schema) in
      let wide : OfWidth (length schema) (database_of creates tables name) =
      subst (λ (r : Rows). OfWidth (length schema) r) (sym table.here.rows) table.here.wide in
      let form_image : List Value → Option (List Value) = λ row. all_there
      (map (expression_value (meant environment bound scope row)) made.0) in
      let tree_image : List Value → Option (List Value) = image (said environment bound scope) update.assignments
      (map (λ column. record { source = name; column = column }) (names_of schema)) in
      let alike : (row : List Value) → length row ≡ length schema → tree_image row ≡ form_image row =
      λ row l. image_same environment bound scope name schema update.assignments made.0 row
      (distinct_at creates 0 name found.0 apart there_it_is) made.1 l
      (l ∙ sym (length-map schema (λ (column : ColumnSchema). column.name))) in
      let matches : List Value → Bool = meets (operand_worth (known_worth environment)) tests.0 in
      let database = database_of creates tables in
      ap (λ (columns : List SourceColumn). replacement (table_named name)
      (meets (operand_value environment columns) update.tests)
      (image (operand_value environment columns) update.assignments (table_columns creates name name)) database
      environment) columns
      ∙ ap (λ (names : List Name). replacement (table_named name) (meets (said environment bound scope) update.tests)
      (image (said environment bound scope) update.assignments
      (map (λ column. record { source = name; column = column }) names)) database environment) table.here.columns
      ∙ (λ i. replacement (table_named name) (λ row. where_same environment bound scope row update.tests tests.0
      tests.1 i) tree_image database environment)
      ∙ ap (λ (left : Option Rows). or_overflow left (changed (table_named name)
      (set.len (matched matches (database name)))) database environment)
      (updated_alike matches tree_image form_image (database name) (length schema) wide alike)
      ∙ replacement_same creates tables name table.put.0 table.put.2 environment matches form_image table.rows
      ∙ ap (λ (n : ℕ). effect_of creates (replacement (table_numbered n) matches form_image tables environment))
      table.place
      ∙ ap (λ (f : Statement Known). effect_of creates (meaning f)) (one_answer _ form made.2)
