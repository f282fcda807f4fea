-- A statement that resolves leaves what can be told, kinds too.
use Rattle.std.proofs.Common.{◌≡◌, List, [], None, Ok, Err, Result, refl, sym, ap, subst, ◌∙◌}
use Rattle.ent_tree.specs.declared.declaration.Create.{Create}
use Rattle.ent_tree.specs.declared.script.Statement.{Statement as TreeStatement}
use Rattle.ent_print.specs.Spelling.{statement_spelling}
use Rattle.ent_semantics.specs.declared.answer.Failure.{Failure}
use Rattle.ent_semantics.specs.Database.{Database, Environment}
use Rattle.ent_semantics.specs.Effect.{Effect}
use Rattle.ent_semantics.specs.Entangled.{Valuation}
use Rattle.ent_semantics.specs.Statement.{statement_meaning}
use Rattle.ent_semantics.specs.Form.{Tables, form_meaning, known_worth}
use Rattle.ent_semantics.specs.declared.operand.Known.{Known}
use Rattle.ent_semantics.specs.declared.statement.Statement.{Statement}
use Rattle.ent_form.specs.Catalogue.{schemas_of}
use Rattle.ent_form.specs.Form.{statement_in}
use Rattle.ent_form.specs.Kinds.{Bound}
use Rattle.ent_form.specs.OpeningFault.{declarations_fault}
use Rattle.ent_sql_laws.specs.Fits.{StatementFits}
use Rattle.ent_form.specs.TableKinds.{HasKinds}
use Rattle.ent_form.proofs.ResolvedSteps.{one_answer}
use Rattle.ent_form.specs.Tables.{database_of, effect_of}
use Rattle.ent_history.specs.Answers.{IsOfSort}
use Rattle.ent_report_laws.specs.Tellable.{IsAnswerTold}
use Rattle.ent_program_laws.specs.Answered.{CanBeCounted}
use Rattle.ent_program_laws.specs.Held.{CanAnswer, HoldsValuesOf}
use Rattle.ent_program_laws.specs.Laws.{Laws}
use Rattle.ent_program_laws.proofs.Leaving.{leaves_told}
use Rattle.ent_program_laws.proofs.Read.{AreRead}
use Rattle.ent_program_laws.proofs.Stored.{IsStored, stored_wide}

module _ (declared : List Create) where
  -- the effect of a form over tables, seen by their names
  abbrev named : Effect Tables → Effect Database
  named effect = record {
    database = database_of declared effect.database;
    environment = effect.environment;
    answer = effect.answer;
  }

  of_form : (meaning : Result (Effect Tables) Failure) (effect : Effect Database)
      → effect_of declared meaning ≡ Ok effect
      → (own : Effect Tables) × (meaning ≡ Ok own) × (effect ≡ named own)
  of_form (Ok own) effect e = (own, refl, sym (one_answer {E = Failure} (named own) effect e))
  of_form (Err failure) effect e = cc (e)

  -- what is there behind a statement
  pub record IsBehind (after : Bound) (statement : TreeStatement) (effect : Effect Database) : Type 0 where
    pub stored : IsStored declared effect.database
    pub held : HoldsValuesOf after effect.environment
    pub sort : IsOfSort statement effect.answer
    pub told : CanBeCounted effect.answer → IsAnswerTold effect.answer

  pub steps_on : Laws → declarations_fault [] declared ≡ None → (bound after : Bound) (statement : TreeStatement)
      (form : Statement Known) → statement_in (schemas_of declared) bound statement ≡ Ok (form, after)
      → AreRead (statement_spelling statement) → StatementFits statement → (valuation : Valuation)
      → CanAnswer statement form valuation → (database : Database) → IsStored declared database
      → (environment : Environment) → HoldsValuesOf bound environment → (effect : Effect Database)
      → statement_meaning declared statement valuation database environment ≡ Ok effect
      → IsBehind after statement effect
  steps_on laws none bound after statement form is can fits valuation answers database stored environment held effect
      e =
      let schemas = schemas_of declared in
      let told = leaves_told declared database environment stored.rows stored.few held.values
      (stored_wide declared database stored) statement can fits valuation answers.values effect e in
      let over = ap (λ (d : Database). statement_meaning declared statement valuation d environment) (sym stored.is)
      ∙ e in
      let means = laws.forms.means declared stored.tables environment valuation bound after statement form
      (laws.forms.wide declared stored.tables stored.kinded) (laws.distinct declared none) is answers.many in
      let own = of_form (form_meaning known_worth form valuation stored.tables environment) effect (sym means ∙ over) in
      let kinded = laws.forms.keeps schemas bound after statement form valuation stored.tables environment own.0 is
      stored.kinded held.kinds own.1 in
      let have = laws.forms.binds schemas bound after statement form valuation stored.tables environment own.0 is
      held.kinds answers.kinds own.1 in
      record {
        stored = record {
          tables = own.0.database;
          is = ap (λ (f : Effect Database). f.database) own.2;
          kinded = kinded;
          rows = told.rows;
          few = told.few;
        };
        held = record {
          kinds = subst (λ (f : Effect Database). HasKinds after f.environment) (sym own.2) have;
          values = told.values;
        };
        sort = told.sort;
        told = told.told;
      }
