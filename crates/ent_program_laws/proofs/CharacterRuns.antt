-- What statements that run one after the other see, leave and answer has the property.
use Rattle.std.proofs.Common.{◌≡◌, ℕ, suc, ℤ, false, List, [], ◌∷◌, ◌++◌, refl, sym, subst, inl, inr, Some, Ok, Err}
use Rattle.std.proofs.Common.{Result}
use Rattle.std.proofs.lemmas.Option.{same_Some}
use Rattle.std.specs.List.{AllByRecursion}
use Rattle.ent_value.specs.declared.value.Value.{Value}
use Rattle.ent_value.specs.declared.value.Value.TheVariants.{Int}
use Rattle.ent_tree.specs.declared.declaration.Create.{Create}
use Rattle.ent_tree.specs.declared.script.Statement.{Statement}
use Rattle.ent_tree.specs.declared.script.Statement.TheVariants as statements
use Rattle.ent_semantics.specs.declared.answer.Failure.{Failure}
use Rattle.ent_semantics.specs.Database.{Database, Environment}
use Rattle.ent_semantics.specs.Effect.{Effect}
use Rattle.ent_semantics.specs.Entangled.{Valuation}
use Rattle.ent_semantics.specs.Joint.{IsGrounded}
use Rattle.ent_semantics.specs.Serial.{Operation, Run, ReadView, after, answered_first, is_entangled, run, seen}
use Rattle.ent_semantics.specs.Serial.{seen_after}
use Rattle.ent_semantics.specs.Serial.{read_views}
use Rattle.ent_semantics.specs.Statement.{statement_meaning}
use Rattle.ent_form.specs.Catalogue.{schemas_of}
use Rattle.ent_history.proofs.Operations.{mapped_some}
use Rattle.ent_lists.specs.Elements.{In, in_either, in_first, in_second}
use Rattle.ent_program_laws.proofs.Walking.{TakesNone, trees_of}
use Rattle.ent_program_laws.specs.Values.{AnswersValues, BindsValues, HoldsValues, LeavesValues, WritesValues}
use Rattle.ent_program_laws.proofs.CharacterGrounding.{IsFaultless, grounding_has}
use Rattle.ent_program_laws.proofs.CharacterLeaving.{statement_leaves}

module _ (P : Value → Type 0) (numbers : (number : ℤ) → P (Int number)) (declared : List Create) where
  abbrev pub AllGrounded : List ReadView → Type 0
  AllGrounded all = (read_view : ReadView) → In read_view all → IsGrounded declared read_view

  -- a statement without a fault that writes such values
  abbrev pub IsReady : Statement → Type 0
  IsReady statement = WritesValues P statement × IsFaultless (schemas_of declared) statement

  -- each grounding is of such values
  abbrev pub AreSeen : List ReadView → Type 0
  AreSeen all = (read_view : ReadView) → In read_view all → AllByRecursion P read_view.valuation

  -- what a run leaves and answers
  abbrev pub IsLeft : Run → Type 0
  IsLeft over = HoldsValues P over.database × AllByRecursion (AnswersValues P) over.answers

  pub record RunKeeps (tx place : ℕ) (operations : List Operation) (database : Database) (environment : Environment)
      : Type 0 where
    pub sees : AreSeen (read_views declared tx place operations database environment)
    pub leaves : (over : Run) → run declared operations database environment ≡ Some over → IsLeft over

  -- ---- one statement

  module _ (tx place : ℕ) (database : Database) (environment : Environment) where
    abbrev seen_by : Statement → Valuation → List ReadView
    seen_by statement valuation =
        seen tx place (record { statement = statement; valuation = valuation }) database environment

    -- the valuation of what is ready
    valuation_has : HoldsValues P database → BindsValues P environment → (statement : Statement)
        (valuation : Valuation) → IsReady statement → (is_entangled statement ≡ false → valuation ≡ [])
        → AllGrounded (seen_by statement valuation) → AllByRecursion P valuation
    valuation_has holds binds (statements.Entangled entangled) valuation ready none grounded =
        grounding_has P numbers declared database environment holds binds entangled ready.0 valuation
        (grounded (record {
          tx = tx;
          place = place;
          valuation = valuation;
          entangled = entangled;
          database = database;
          environment = environment;
        }) (inl refl)) (schemas_of declared) ready.1
    valuation_has holds binds (statements.Select select) valuation ready none grounded =
        subst (AllByRecursion P) (sym (none refl)) tt
    valuation_has holds binds (statements.Insert insert) valuation ready none grounded =
        subst (AllByRecursion P) (sym (none refl)) tt
    valuation_has holds binds (statements.Delete delete) valuation ready none grounded =
        subst (AllByRecursion P) (sym (none refl)) tt
    valuation_has holds binds (statements.Update update) valuation ready none grounded =
        subst (AllByRecursion P) (sym (none refl)) tt
    valuation_has holds binds (statements.Set set) valuation ready none grounded =
        subst (AllByRecursion P) (sym (none refl)) tt

    seen_has : (statement : Statement) (valuation : Valuation) → AllByRecursion P valuation
        → AreSeen (seen_by statement valuation)
    seen_has (statements.Entangled entangled) valuation has read_view (inl same) =
        subst (λ (s : ReadView). AllByRecursion P s.valuation) (sym same) has
    seen_has (statements.Entangled entangled) valuation has read_view (inr nowhere) = absurd nowhere
    seen_has (statements.Select select) valuation has read_view nowhere = absurd nowhere
    seen_has (statements.Insert insert) valuation has read_view nowhere = absurd nowhere
    seen_has (statements.Delete delete) valuation has read_view nowhere = absurd nowhere
    seen_has (statements.Update update) valuation has read_view nowhere = absurd nowhere
    seen_has (statements.Set set) valuation has read_view nowhere = absurd nowhere

  -- ---- a statement and those behind it

  module _ (tx place : ℕ) (here : List ReadView) (more : List Operation) where
    abbrev seen_later : Database → Environment → List ReadView
    seen_later = read_views declared tx (suc place) more

    record KeepsFrom (meaning : Result (Effect Database) Failure) : Type 0 where
      pub sees : AreSeen (here ++ seen_after meaning seen_later)
      pub leaves : (over : Run) → after meaning (run declared more) ≡ Some over → IsLeft over

    keeps_from : (meaning : Result (Effect Database) Failure) → AreSeen here
        → ((effect : Effect Database) → meaning ≡ Ok effect → LeavesValues P effect)
        → AllGrounded (seen_after meaning seen_later)
        → ((effect : Effect Database) → LeavesValues P effect
        → AllGrounded (seen_later effect.database effect.environment)
        → RunKeeps tx (suc place) more effect.database effect.environment) → KeepsFrom meaning
    keeps_from (Ok effect) own left grounded onward =
        let there = left effect refl in
        let rest = onward effect there grounded in
        record {
          sees = λ read_view at. elim (in_either here (seen_later effect.database effect.environment) read_view at) [
            | inl now ↦ own read_view now
            | inr behind ↦ rest.sees read_view behind
          ];
          leaves = λ over e.
              let g = mapped_some (answered_first effect.answer)
              (run declared more effect.database effect.environment) over e in
              let behind = rest.leaves g.0 g.1 in
              subst IsLeft (sym g.2) (behind.0, (there.answered, behind.1));
        }
    keeps_from (Err failure) own left grounded onward =
        record {
          sees = λ read_view at. elim (in_either here [] read_view at) [
            | inl now ↦ own read_view now
            | inr nowhere ↦ absurd nowhere
          ];
          leaves = λ over e. cc (e);
        }

  pub run_keeps : (tx place : ℕ) (operations : List Operation) → AllByRecursion TakesNone operations
      → AllByRecursion IsReady (trees_of operations) → (database : Database) → HoldsValues P database
      → (environment : Environment) → BindsValues P environment
      → AllGrounded (read_views declared tx place operations database environment)
      → RunKeeps tx place operations database environment
  run_keeps tx place [] none ready database holds environment binds grounded =
      let still : Run = record { database = database; environment = environment; answers = [] } in
      record {
        sees = λ read_view nowhere. absurd nowhere;
        leaves = λ over e. subst IsLeft (same_Some still over e) (holds, tt);
      }
  run_keeps tx place (operation ∷ more) none ready database holds environment binds grounded =
      let meaning = statement_meaning declared operation.statement operation.valuation database environment in
      let here = seen tx place operation database environment in
      let later = seen_after meaning (read_views declared tx (suc place) more) in
      let has = valuation_has tx place database environment holds binds operation.statement operation.valuation ready.0
      none.0
      (λ read_view at. grounded read_view (in_first here later read_view at)) in
      let from = keeps_from tx place here more meaning
      (seen_has tx place database environment operation.statement operation.valuation has)
      (λ effect e.
      statement_leaves P numbers declared operation.statement operation.valuation database environment effect ready.0.0
      has holds
      binds e)
      (λ read_view at. grounded read_view (in_second here later read_view at))
      (λ effect there rest. run_keeps tx (suc place) more none.1 ready.1 effect.database there.tables effect.environment
      there.variables rest) in
      record { sees = from.sees; leaves = from.leaves }
