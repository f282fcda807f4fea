-- Every statement resolved.
use Rattle.std.proofs.Common.{◌≡◌, List, Result, Ok, ap, ◌∙◌}
use Rattle.ent_tree.specs.declared.declaration.Create.{Create}
use Rattle.ent_tree.specs.declared.script.Statement.{Statement as TreeStatement}
use Rattle.ent_tree.specs.declared.script.Statement.TheVariants as statements
use Rattle.ent_semantics.specs.declared.operand.Known.{Known}
use Rattle.ent_semantics.specs.declared.statement.Statement.{Statement}
use Rattle.ent_semantics.specs.Form.{Tables, known_worth, form_meaning}
use Rattle.ent_semantics.specs.declared.answer.Failure.{Failure}
use Rattle.ent_semantics.specs.Database.{Rows, Environment}
use Rattle.ent_semantics.specs.Effect.{Effect, shown, heads_given}
use Rattle.ent_semantics.specs.Entangled.{Valuation}
use Rattle.ent_semantics.specs.Statement.{statement_meaning}
use Rattle.ent_form.specs.Catalogue.{schemas_of}
use Rattle.ent_form.specs.Entangled.{entangled_in}
use Rattle.ent_form.specs.Form.{statement_in}
use Rattle.ent_form.specs.Kinds.{Bound}
use Rattle.ent_form.specs.Ordinary.{select_in, insert_in, delete_in, update_in}
use Rattle.ent_form.proofs.Heads.{found_of}
use Rattle.ent_form.specs.Tables.{database_of, AreWide, HaveDistinctColumns, effect_of, Answers}
use Rattle.ent_form.proofs.Changing.{insert_same, delete_same, set_same}
use Rattle.ent_form.proofs.Selecting.{select_same}
use Rattle.ent_form.proofs.ResolvedSteps.{one_answer}
use Rattle.ent_form.proofs.Updating.{update_same}
use Rattle.ent_form.proofs.Whole.{heads_meant, bound_meant}

module _ (creates : List Create) (tables : Tables) (fitting : AreWide creates tables)
    (apart : HaveDistinctColumns creates)
    (environment : Environment) (valuation : Valuation) (bound after : Bound) where
  abbrev meaning : Statement Known → Result (Effect Tables) Failure
  meaning form = form_meaning known_worth form valuation tables environment

  abbrev form_of : (Statement Known × Bound) → Statement Known
  form_of both = both.0

  pub statement_same : (statement : TreeStatement) (form : Statement Known)
      → statement_in (schemas_of creates) bound statement ≡ Ok (form, after) → Answers statement valuation
      → statement_meaning creates statement valuation (database_of creates tables) environment
      ≡ effect_of creates (meaning form)
  unfolding statement_in
  statement_same (statements.Select select) form e l =
      let w = found_of (select_in (schemas_of creates) bound select) _ (form, after) e in
      ap (λ (rows : Rows). shown rows (database_of creates tables) environment)
      (select_same creates tables fitting environment bound select w.0.0 w.0.1 w.1)
      ∙ ap (λ (both : Statement Known × Bound). effect_of creates (meaning (form_of both)))
      (one_answer _ (form, after) w.2)
  statement_same (statements.Entangled entangled) form e l =
      let w = found_of (entangled_in (schemas_of creates) bound entangled) _ (form, after) e in
      let tables_of = schemas_of creates in
      let heads = heads_meant environment entangled valuation tables_of bound w.0.1 w.0.0 w.1 l in
      let binds = bound_meant environment entangled valuation tables_of bound w.0.1 w.0.0 w.1 l in
      (λ i. heads_given (heads i) (binds i) (database_of creates tables) environment)
      ∙ ap (λ (both : Statement Known × Bound). effect_of creates (meaning (form_of both)))
      (one_answer _ (form, after) w.2)
  statement_same (statements.Insert insert) form e l =
      let w = found_of (insert_in (schemas_of creates) bound insert) _ (form, after) e in
      insert_same creates tables fitting environment valuation bound insert w.0 w.1
      ∙ ap (λ (both : Statement Known × Bound). effect_of creates (meaning (form_of both)))
      (one_answer _ (form, after) w.2)
  statement_same (statements.Delete delete) form e l =
      let w = found_of (delete_in (schemas_of creates) bound delete) _ (form, after) e in
      delete_same creates tables fitting environment valuation bound delete w.0 w.1
      ∙ ap (λ (both : Statement Known × Bound). effect_of creates (meaning (form_of both)))
      (one_answer _ (form, after) w.2)
  statement_same (statements.Update update) form e l =
      let w = found_of (update_in (schemas_of creates) bound update) _ (form, after) e in
      update_same creates tables fitting apart environment valuation bound update w.0 w.1
      ∙ ap (λ (both : Statement Known × Bound). effect_of creates (meaning (form_of both)))
      (one_answer _ (form, after) w.2)
  statement_same (statements.Set setting) form e l =
      set_same creates tables fitting environment valuation bound setting form after e
