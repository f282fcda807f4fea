-- What a script answers and sees from a statement on can be told.
use Rattle.std.proofs.Common.{◌≡◌, ℕ, suc, true, false, List, [], ◌∷◌, ◌++◌, refl, sym, ap, subst}
use Rattle.std.proofs.Common.{◌∙◌, inl, inr, Option, Some, None, Ok, Err, Result, slice_get}
use Rattle.std.proofs.lemmas.Option.{same_Some}
use Rattle.std.specs.List.{AllByRecursion}
use Rattle.std.specs.Option.{option_map}
use Rattle.ent_tree.specs.declared.declaration.Create.{Create}
use Rattle.ent_tree.specs.declared.entangled.Entangled.{Entangled as TreeEntangled}
use Rattle.ent_tree.specs.declared.script.Script.{Script}
use Rattle.ent_tree.specs.declared.script.Statement.{Statement as TreeStatement}
use Rattle.ent_tree.specs.declared.script.Statement.TheVariants as trees
use Rattle.ent_print.specs.Spelling.{statement_spelling}
use Rattle.ent_semantics.specs.declared.answer.Answer.{Answer}
use Rattle.ent_semantics.specs.declared.answer.Failure.{Failure}
use Rattle.ent_semantics.specs.Database.{Database, Environment}
use Rattle.ent_semantics.specs.Effect.{Effect}
use Rattle.ent_semantics.specs.Entangled.{Valuation, is_grounding}
use Rattle.ent_semantics.specs.Joint.{IsGrounded}
use Rattle.ent_semantics.specs.Serial.{Operation, Run, ReadView, after, answered_first, is_entangled, run, seen}
use Rattle.ent_semantics.specs.Serial.{seen_after}
use Rattle.ent_semantics.specs.Serial.{read_views}
use Rattle.ent_semantics.specs.Statement.{statement_meaning}
use Rattle.ent_semantics.specs.declared.entangled.Entangled.{Entangled}
use Rattle.ent_semantics.specs.declared.operand.Known.{Known}
use Rattle.ent_semantics.specs.declared.statement.Statement.{Statement}
use Rattle.ent_semantics.specs.declared.statement.Statement.TheVariants as forms
use Rattle.ent_form.specs.Catalogue.{schemas_of}
use Rattle.ent_form.specs.Form.{script_in, statement_in}
use Rattle.ent_form.specs.Kinds.{Bound}
use Rattle.ent_form.specs.OpeningFault.{declarations_fault}
use Rattle.ent_form.specs.declared.script.Plain.{Plain}
use Rattle.ent_sql_laws.specs.Fits.{Each, StatementFits}
use Rattle.ent_form.specs.TableKinds.{AnswersInKind}
use Rattle.ent_form.proofs.Ordinary.{answers_any, in_any_kind}
use Rattle.ent_lists.specs.Elements.{In, got_in, in_contains, in_either, in_first, in_second}
use Rattle.ent_report_laws.specs.Tellable.{AreAnswersTo}
use Rattle.ent_program_laws.specs.Answered.{CanBeCounted}
use Rattle.ent_program_laws.specs.Held.{CanAnswer, HoldsValuesOf}
use Rattle.ent_program_laws.specs.Laws.{Laws}
use Rattle.ent_program_laws.proofs.Grounding.{IsAnswered, grounding_answers}
use Rattle.ent_program_laws.proofs.Read.{AreRead}
use Rattle.ent_program_laws.proofs.Stepping.{IsBehind, steps_on}
use Rattle.ent_program_laws.proofs.Stored.{IsStored}
use Rattle.ent_program_laws.proofs.Values.{AreValues}
use Rattle.ent_check.proofs.Along.{Resolves}
use Rattle.ent_program_laws.proofs.Walking.{Behind, IsReadViewTold, TakesNone, entangled_form}
use Rattle.ent_program_laws.proofs.Walking.{first_behind, next_behind, trees_of}

-- what a run leaves
left_by : (answer : Answer) (rest : Option Run) (left : Run) → option_map (answered_first answer) rest ≡ Some left
    → (others : Run) × (rest ≡ Some others) × (answered_first answer others ≡ left)
left_by answer (Some others) left e = (others, refl, same_Some (answered_first answer others) left e)
left_by answer None left e = cc (e)

module _ (laws : Laws) (declared : List Create) (none : declarations_fault [] declared ≡ None) (tx : ℕ)
    (script : Script) (plain : Plain) (made : script_in (schemas_of declared) script ≡ Ok plain) where
  -- what is left of the script, from the statement of this number on, counted from 0
  pub record IsLeft (n : ℕ) (bound : Bound) (operations : List Operation) (own : List (Statement Known)) : Type 0 where
    pub none_taken : AllByRecursion TakesNone operations
    pub resolves : Resolves (schemas_of declared) bound (trees_of operations) own
    pub read : AllByRecursion (λ (tree : TreeStatement). AreRead (statement_spelling tree)) (trees_of operations)
    pub fits : Each StatementFits (trees_of operations)
    pub trees_at : Behind n (trees_of operations) script.statements
    pub forms_at : Behind n own plain.statements

  -- what holds of a run from there on
  pub record RunsOn (n : ℕ) (operations : List Operation) (database : Database) (environment : Environment) : Type
      0 where
    pub sees : (read_view : ReadView) → In read_view (read_views declared tx (suc n) operations database environment)
        → IsReadViewTold tx script plain read_view
    pub leaves : (over : Run) → run declared operations database environment ≡ Some over
        → IsStored declared over.database
    pub tells : (over : Run) → run declared operations database environment ≡ Some over
        → AllByRecursion CanBeCounted over.answers → AreAnswersTo (trees_of operations) over.answers

  abbrev AllGrounded : List ReadView → Type 0
  AllGrounded all = (read_view : ReadView) → In read_view all → IsGrounded declared read_view

  -- ---- one statement

  -- a statement with its form, at its place
  pub record IsAt (n : ℕ) (bound behind : Bound) (statement : TreeStatement) (form : Statement Known) : Type 0 where
    pub resolved : statement_in (schemas_of declared) bound statement ≡ Ok (form, behind)
    pub read : AreRead (statement_spelling statement)
    pub fits : StatementFits statement
    pub tree_at : slice_get script.statements n ≡ Some statement
    pub form_at : slice_get plain.statements n ≡ Some form

  abbrev operation_of : TreeStatement → Valuation → Operation
  operation_of statement valuation = record { statement = statement; valuation = valuation }

  abbrev OwnForm : TreeEntangled → Statement Known → Valuation → Type 0
  OwnForm entangled form valuation =
      (own : Entangled Known) × (form ≡ forms.Entangled own) × IsAnswered entangled own valuation

  module _ (n : ℕ) (bound behind : Bound) (form : Statement Known) (valuation : Valuation) (database : Database)
      (stored : IsStored declared database) (environment : Environment) (held : HoldsValuesOf bound environment) where
    abbrev own_read_view : TreeEntangled → ReadView
    own_read_view entangled = record {
      tx = tx;
      place = suc n;
      valuation = valuation;
      entangled = entangled;
      database = database;
      environment = environment;
    }

    entangled_answered : (entangled : TreeEntangled) → IsAt n bound behind (trees.Entangled entangled) form
        → is_grounding declared database environment entangled valuation ≡ true → OwnForm entangled form valuation
    entangled_answered entangled at grounds =
        let own = entangled_form (schemas_of declared) bound behind entangled form at.resolved in
        let there : slice_get plain.statements n ≡ Some (forms.Entangled own.0) = at.form_at ∙ ap Some own.1 in (
          own.0,
          own.1,
          grounding_answers laws declared script plain made bound behind entangled own.0 own.2
              (in_contains plain.statements (forms.Entangled own.0)
              (got_in plain.statements n (forms.Entangled own.0) there))
              at.read at.fits database stored environment held valuation grounds,
        )

    ordinary : (statement : TreeStatement) → IsAt n bound behind statement form → is_entangled statement ≡ false
        → (is_entangled statement ≡ false → valuation ≡ []) → CanAnswer statement form valuation
    ordinary statement at plainly takes =
        let fits = laws.forms.fits (schemas_of declared) bound behind statement form environment at.resolved plainly
        held.kinds in
        record {
          many = answers_any statement valuation plainly;
          kinds = in_any_kind environment form valuation _ fits;
          values = subst AreValues (sym (takes plainly)) tt;
        }

    can_answer : (statement : TreeStatement) → IsAt n bound behind statement form
        → (is_entangled statement ≡ false → valuation ≡ [])
        → AllGrounded (seen tx (suc n) (operation_of statement valuation) database environment)
        → CanAnswer statement form valuation
    can_answer (trees.Entangled entangled) at takes grounded =
        let answered = entangled_answered entangled at (grounded (own_read_view entangled) (inl refl)) in
        record {
          many = answered.2.many;
          kinds = subst (λ (f : Statement Known). AnswersInKind f valuation) (sym answered.1) answered.2.kinds;
          values = answered.2.values;
        }
    can_answer (trees.Select select) at takes grounded = ordinary (trees.Select select) at refl takes
    can_answer (trees.Insert insert) at takes grounded = ordinary (trees.Insert insert) at refl takes
    can_answer (trees.Delete delete) at takes grounded = ordinary (trees.Delete delete) at refl takes
    can_answer (trees.Update update) at takes grounded = ordinary (trees.Update update) at refl takes
    can_answer (trees.Set setting) at takes grounded = ordinary (trees.Set setting) at refl takes

    seen_told : (statement : TreeStatement) → IsAt n bound behind statement form
        → AllGrounded (seen tx (suc n) (operation_of statement valuation) database environment) → (read_view : ReadView)
        → In read_view (seen tx (suc n) (operation_of statement valuation) database environment)
        → IsReadViewTold tx script plain read_view
    seen_told (trees.Entangled entangled) at grounded read_view (inl same) =
        let answered = entangled_answered entangled at (grounded (own_read_view entangled) (inl refl)) in
        subst (IsReadViewTold tx script plain) (sym same)
        (record {
          of_script = refl;
          statement = at.tree_at;
          form = answered.0;
          resolved = at.form_at ∙ ap Some answered.1;
          answered = answered.2;
        })
    seen_told (trees.Entangled entangled) at grounded read_view (inr nowhere) = absurd nowhere
    seen_told (trees.Select select) at grounded read_view nowhere = absurd nowhere
    seen_told (trees.Insert insert) at grounded read_view nowhere = absurd nowhere
    seen_told (trees.Delete delete) at grounded read_view nowhere = absurd nowhere
    seen_told (trees.Update update) at grounded read_view nowhere = absurd nowhere
    seen_told (trees.Set setting) at grounded read_view nowhere = absurd nowhere

  -- ---- behind it

  module _ (n : ℕ) (bound behind : Bound) (form : Statement Known) (operation : Operation) (more : List Operation)
      (at : IsAt n bound behind operation.statement form) (takes : TakesNone operation) (database : Database)
      (stored : IsStored declared database) (environment : Environment) (held : HoldsValuesOf bound environment)
      (grounded : AllGrounded (seen tx (suc n) operation database environment)) where
    abbrev now : List ReadView
    now = seen tx (suc n) operation database environment

    abbrev seen_later : Database → Environment → List ReadView
    seen_later = read_views declared tx (suc (suc n)) more

    -- what holds where the statement comes to this
    pub record RunsFrom (meaning : Result (Effect Database) Failure) : Type 0 where
      pub sees : (read_view : ReadView) → In read_view (now ++ seen_after meaning seen_later)
          → IsReadViewTold tx script plain read_view
      pub leaves : (over : Run) → after meaning (run declared more) ≡ Some over → IsStored declared over.database
      pub tells : (over : Run) → after meaning (run declared more) ≡ Some over
          → AllByRecursion CanBeCounted over.answers → AreAnswersTo (trees_of (operation ∷ more)) over.answers

    runs_from : (meaning : Result (Effect Database) Failure)
        → statement_meaning declared operation.statement operation.valuation database environment ≡ meaning
        → AllGrounded (seen_after meaning seen_later)
        → ((effect : Effect Database) → IsBehind declared behind operation.statement effect
        → AllGrounded (seen_later effect.database effect.environment)
        → RunsOn (suc n) more effect.database effect.environment) → RunsFrom meaning
    runs_from (Ok effect) is rest onward =
        let answers = can_answer n bound behind form operation.valuation database stored environment held
        operation.statement at
        takes grounded in
        let there = steps_on declared laws none bound behind operation.statement form at.resolved at.read at.fits
        operation.valuation answers database stored environment held effect is in
        let later = onward effect there rest in
        record {
          sees = λ read_view within.
              elim (in_either now (seen_later effect.database effect.environment) read_view within) [
                | inl here ↦ seen_told n bound behind form operation.valuation database stored environment held
                    operation.statement at grounded read_view here
                | inr behind ↦ later.sees read_view behind
              ];
          leaves = λ over e.
              let l = left_by effect.answer (run declared more effect.database effect.environment) over e in
              subst (λ (r : Run). IsStored declared r.database) l.2 (later.leaves l.0 l.1);
          tells = λ over e counted.
              let l = left_by effect.answer (run declared more effect.database effect.environment) over e in
              let both : AllByRecursion CanBeCounted (effect.answer ∷ l.0.answers) =
              subst (λ (r : Run). AllByRecursion CanBeCounted r.answers) (sym l.2) counted in
              subst (λ (r : Run). AreAnswersTo (trees_of (operation ∷ more)) r.answers) l.2
              (there.sort, there.told both.0, later.tells l.0 l.1 both.1);
        }
    runs_from (Err failure) is rest onward =
        record {
          sees = λ read_view within. elim (in_either now [] read_view within) [
            | inl here ↦ seen_told n bound behind form operation.valuation database stored environment held
                operation.statement at grounded read_view here
            | inr nowhere ↦ absurd nowhere
          ];
          leaves = λ over e. cc (e);
          tells = λ over e counted. cc (e);
        }

  -- ---- from a statement on

  next_left : (n : ℕ) (bound : Bound) (operation : Operation) (more : List Operation) (form : Statement Known)
      (own : List (Statement Known)) → (left : IsLeft n bound (operation ∷ more) (form ∷ own))
      → IsLeft (suc n) left.resolves.0 more own
  next_left n bound operation more form own left = record {
    none_taken = left.none_taken.1;
    resolves = left.resolves.2;
    read = left.read.1;
    fits = left.fits.1;
    trees_at = next_behind n operation.statement (trees_of more) script.statements left.trees_at;
    forms_at = next_behind n form own plain.statements left.forms_at;
  }

  pub runs_on : (n : ℕ) (bound : Bound) (operations : List Operation) (own : List (Statement Known))
      → IsLeft n bound operations own
      → (database : Database) → IsStored declared database → (environment : Environment)
      → HoldsValuesOf bound environment → AllGrounded (read_views declared tx (suc n) operations database environment)
      → RunsOn n operations database environment
  runs_on n bound [] own left database stored environment held grounded =
      let still : Run = record { database = database; environment = environment; answers = [] } in
      record {
        sees = λ read_view nowhere. absurd nowhere;
        leaves = λ over e. subst (λ (r : Run). IsStored declared r.database) (same_Some still over e) stored;
        tells = λ over e counted. subst (λ (r : Run). AreAnswersTo [] r.answers) (same_Some still over e) tt;
      }
  runs_on n bound (operation ∷ more) [] left database stored environment held grounded = absurd left.resolves
  runs_on n bound (operation ∷ more) (form ∷ own) left database stored environment held grounded =
      let behind = left.resolves.0 in
      let at : IsAt n bound behind operation.statement form = record {
        resolved = left.resolves.1;
        read = left.read.0;
        fits = left.fits.0;
        tree_at = first_behind n operation.statement (trees_of more) script.statements left.trees_at;
        form_at = first_behind n form own plain.statements left.forms_at;
      } in
      let meaning = statement_meaning declared operation.statement operation.valuation database environment in
      let here = seen tx (suc n) operation database environment in
      let later = seen_after meaning (read_views declared tx (suc (suc n)) more) in
      let from = runs_from n bound behind form operation more at left.none_taken.0 database stored environment held
      (λ read_view within. grounded read_view (in_first here later read_view within)) meaning refl
      (λ read_view within. grounded read_view (in_second here later read_view within))
      (λ effect there rest. runs_on (suc n) behind more own (next_left n bound operation more form own left)
      effect.database
      there.stored effect.environment there.held rest) in
      record { sees = from.sees; leaves = from.leaves; tells = from.tells }
