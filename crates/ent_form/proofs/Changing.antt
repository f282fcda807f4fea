-- INSERT, DELETE and SET resolved.
use Rattle.std.proofs.Common.{◌≡◌, ℕ, List, [], ◌∷◌, ◌++◌, map, length, Option, Some, None, Result, Ok, refl, sym, ap}
use Rattle.std.proofs.Common.{◌∙◌, arith}
use Rattle.std.specs.Prelude.{◌==◌}
use Rattle.std.proofs.lemmas.List.{append-nil}
use Rattle.ent_lists.specs.Elements.{same_number}
use Rattle.ent_value.specs.declared.value.Kind.{Kind}
use Rattle.ent_value.specs.declared.value.Kind.TheVariants as kinds
use Rattle.ent_value.specs.declared.value.Value.{Value}
use Rattle.ent_tree.specs.declared.declaration.Create.{Create}
use Rattle.ent_tree.specs.declared.operand.Expression.{Expression}
use Rattle.ent_tree.specs.declared.operand.Expression.TheVariants.{Single, Sum, Difference}
use Rattle.ent_tree.specs.declared.operand.ValueSpecification.{ValueSpecification}
use Rattle.ent_tree.specs.declared.statement.Delete.{Delete}
use Rattle.ent_tree.specs.declared.statement.Insert.{Insert}
use Rattle.ent_tree.specs.declared.statement.Set.{Set}
use Rattle.ent_semantics.specs.declared.operand.Known.{Known}
use Rattle.ent_semantics.specs.declared.statement.Statement.{Statement}
use Rattle.ent_semantics.specs.Form.{Tables, table_numbered, known_worth, operand_worth, form_meaning}
use Rattle.ent_semantics.specs.declared.answer.Failure.{Failure}
use Rattle.ent_semantics.specs.Database.{Name, Environment, table_named}
use Rattle.ent_semantics.specs.Effect.{Effect, insertion, deletion, setting}
use Rattle.ent_semantics.specs.Entangled.{Valuation}
use Rattle.ent_semantics.specs.Selection.{meets}
use Rattle.ent_semantics.specs.Statement.{table_worth}
use Rattle.ent_semantics.specs.Term.{known_value, operand_value, expression_value, table_columns}
use Rattle.ent_form.specs.declared.catalogue.ColumnSchema.{ColumnSchema}
use Rattle.ent_form.specs.declared.fault.FormFault.TheVariants.{NoTable, Arity}
use Rattle.ent_form.specs.Catalogue as catalogue
use Rattle.ent_form.specs.Catalogue.{schemas_of}
use Rattle.ent_form.specs.Kinds.{Bound}
use Rattle.ent_form.specs.Lookup.{value_in, values_in, kind_in, expression_in}
use Rattle.ent_form.specs.Ordinary.{row_from, insert_in, tests_in, delete_in, set_in}
use Rattle.ent_form.specs.Scope.{table_in, table_scope}
use Rattle.ent_form.proofs.Heads.{found_of, there_of}
use Rattle.ent_form.specs.Tables.{database_of, AreWide, effect_of}
use Rattle.ent_form.proofs.ResolvedHeads.{grown}
use Rattle.ent_form.proofs.Putting.{put_table, insertion_same, deletion_same}
use Rattle.ent_form.proofs.Selecting.{where_same}
use Rattle.ent_form.proofs.Sources.{name_of, names_seen}
use Rattle.ent_form.proofs.ResolvedSteps.{one_answer, demand_given}
use Rattle.ent_form.proofs.Terms.{value_same, kind_value_same}

module _ (environment : Environment) (bound : Bound) where
  row_same : (columns : List ColumnSchema) (values : List ValueSpecification) (made out : List Known)
      → length values ≡ length columns → row_from bound made columns values ≡ Ok out
      → map (known_worth environment) out ≡ map (known_worth environment) made ++ map (known_value environment) values
  row_same [] [] made out l e =
      ap (map (known_worth environment)) (sym (one_answer made out e))
      ∙ sym (append-nil (map (known_worth environment) made))
  row_same [] (value ∷ values) made out l e = absurd (omega arith)
  row_same (column ∷ columns) [] made out l e = absurd (omega arith)
  row_same (column ∷ columns) (value ∷ values) made out l e =
      let w = found_of (kind_in (values_in bound) column.kind value) _ out e in
      row_same columns values (made ++ w.0 ∷ []) out (omega arith) w.2
      ∙ grown (known_worth environment) made w.0 (known_value environment value) (map (known_value environment) values)
      (sym (kind_value_same environment bound column.kind value w.0 w.1))

  expression_same : (expression : Expression ValueSpecification) (found : Expression Known × Kind)
      → expression_in (values_in bound) expression ≡ Ok found
      → expression_value (known_value environment) expression ≡ expression_value (known_worth environment) found.0
  expression_same (Single term) found e =
      let w = found_of (value_in bound term) _ found e in
      ap (λ (v : Value). Some v) (value_same environment bound term w.0 w.1)
      ∙ ap (λ (f : Expression Known × Kind). expression_value (known_worth environment) f.0) (one_answer _ found w.2)
  expression_same (Sum left right) found e =
      let v = found_of (kind_in (values_in bound) kinds.Int left) _ found e in
      let w = found_of (kind_in (values_in bound) kinds.Int right) _ found v.2 in
      let l = kind_value_same environment bound kinds.Int left v.0 v.1 in
      let r = kind_value_same environment bound kinds.Int right w.0 w.1 in
      (λ i. expression_value (λ (x : Value). x) (Sum (l i) (r i)))
      ∙ ap (λ (f : Expression Known × Kind). expression_value (known_worth environment) f.0) (one_answer _ found w.2)
  expression_same (Difference left right) found e =
      let v = found_of (kind_in (values_in bound) kinds.Int left) _ found e in
      let w = found_of (kind_in (values_in bound) kinds.Int right) _ found v.2 in
      let l = kind_value_same environment bound kinds.Int left v.0 v.1 in
      let r = kind_value_same environment bound kinds.Int right w.0 w.1 in
      (λ i. expression_value (λ (x : Value). x) (Difference (l i) (r i)))
      ∙ ap (λ (f : Expression Known × Kind). expression_value (known_worth environment) f.0) (one_answer _ found w.2)

module _ (creates : List Create) (tables : Tables) (fitting : AreWide creates tables) (environment : Environment)
    (valuation : Valuation) (bound : Bound) where
  abbrev meaning : Statement Known → Result (Effect Tables) Failure
  meaning form = form_meaning known_worth form valuation tables environment

  pub insert_same : (insert : Insert) (form : Statement Known)
      → insert_in (schemas_of creates) bound insert ≡ Ok form
      → insertion (table_named insert.table.name) (map (known_value environment) insert.values)
      (database_of creates tables) environment
      ≡ effect_of creates (meaning form)
  unfolding insert_in
  insert_same insert form e =
      let name = insert.table.name in
      let found = found_of (table_in (schemas_of creates) insert.table) _ form e in
      let there_it_is = there_of (catalogue.table_named (schemas_of creates) name) (NoTable insert.table.place)
      found.0 found.1 in
      let kept = demand_given (length insert.values == length found.0.1.columns) (Arity insert.place) _ form found.2 in
      let row = found_of (row_from bound [] found.0.1.columns insert.values) _ form kept.1 in
      let table = put_table creates tables name found.0 fitting there_it_is in
      ap (λ values. insertion (table_named name) values (database_of creates tables) environment)
      (sym (row_same environment bound found.0.1.columns insert.values [] row.0 (same_number _ _ kept.0) row.1))
      ∙ insertion_same creates tables name table.put.0 table.put.2 environment
      (map (known_worth environment) row.0) table.rows
      ∙ ap (λ (n : ℕ). effect_of creates (insertion (table_numbered n) (map (known_worth environment) row.0) tables
      environment)) table.place
      ∙ ap (λ (f : Statement Known). effect_of creates (meaning f)) (one_answer _ form row.2)

  pub delete_same : (delete : Delete) (form : Statement Known)
      → delete_in (schemas_of creates) bound delete ≡ Ok form
      → deletion (table_named delete.table.name) (meets (table_worth creates environment delete.table.name)
      delete.tests) (database_of creates tables) environment
      ≡ effect_of creates (meaning form)
  unfolding delete_in
  delete_same delete form e =
      let name = delete.table.name in
      let found = found_of (table_in (schemas_of creates) delete.table) _ form e in
      let there_it_is = there_of (catalogue.table_named (schemas_of creates) name) (NoTable delete.table.place)
      found.0 found.1 in
      let scope = table_scope name found.0 in
      let tests = found_of (tests_in scope bound delete.tests) _ form found.2 in
      let table = put_table creates tables name found.0 fitting there_it_is in
      let columns : table_columns creates name name ≡ map name_of scope.columns =
      ap (map (λ column. record { source = name; column = column })) table.here.columns
      ∙ sym (names_seen name found.0.1.columns) in
      ap (λ columns. deletion (table_named name) (meets (operand_value environment columns) delete.tests)
      (database_of creates tables) environment) columns
      ∙ (λ i. deletion (table_named name) (λ row. where_same environment bound scope row delete.tests tests.0 tests.1
      i) (database_of creates tables) environment)
      ∙ deletion_same creates tables name table.put.0 table.put.2 environment
      (meets (operand_worth (known_worth environment)) tests.0) table.rows
      ∙ ap (λ (n : ℕ). effect_of creates (deletion (table_numbered n)
      (meets (operand_worth (known_worth environment)) tests.0) tables environment)) table.place
      ∙ ap (λ (f : Statement Known). effect_of creates (meaning f)) (one_answer _ form tests.2)

  setting_same : (variable : Name) (value : Option Value)
      → setting variable value (database_of creates tables) environment
      ≡ effect_of creates (setting variable value tables environment)
  setting_same variable None = refl
  setting_same variable (Some value) = refl

  pub set_same : (set : Set) (form : Statement Known) (after : Bound)
      → set_in bound set ≡ Ok (form, after)
      → setting set.variable.name (expression_value (known_value environment) set.expression)
      (database_of creates tables) environment
      ≡ effect_of creates (meaning form)
  unfolding set_in
  set_same set form after e =
      let found = found_of (expression_in (values_in bound) set.expression) _ (form, after) e in
      ap (λ value. setting set.variable.name value (database_of creates tables) environment)
      (expression_same environment bound set.expression found.0 found.1)
      ∙ setting_same set.variable.name (expression_value (known_worth environment) found.0.0)
      ∙ ap (λ (both : Statement Known × Bound). effect_of creates (meaning both.0)) (one_answer _ (form, after) found.2)
