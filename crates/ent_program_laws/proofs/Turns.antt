-- What scripts answer and see that run one after the other can be told.
use Rattle.std.proofs.Common.{◌≡◌, List, [], ◌∷◌, refl, sym, ap, subst, ◌∙◌, inl, inr}
use Rattle.std.proofs.Common.{Option, Some, None, Ok, Err, Result}
use Rattle.std.specs.List.{AllByRecursion, flat_map}
use Rattle.std.specs.Option.{option_and_then, option_map}
use Rattle.ent_tree.specs.declared.declaration.Create.{Create}
use Rattle.ent_tree.specs.declared.script.End.{End}
use Rattle.ent_tree.specs.declared.script.End.TheVariants.{Commit, Rollback}
use Rattle.ent_tree.specs.declared.script.Script.{Script}
use Rattle.ent_tree.specs.declared.script.Statement.{Statement as TreeStatement}
use Rattle.ent_print.specs.Reading.{CanBeRead, IsReadable}
use Rattle.ent_print.specs.Spelling.{end_word, line_spelling, script_spelling, sign, statement_spelling, word}
use Rattle.ent_text.specs.declared.symbol.Symbol.TheVariants as symbols
use Rattle.ent_semantics.specs.Database.{Database, nothing_bound}
use Rattle.ent_semantics.specs.Joint.{IsGrounded}
use Rattle.ent_semantics.specs.Serial.{Operation, Run, Runs, ReadView, Turn, operations_of, ended, ran_first, run}
use Rattle.ent_semantics.specs.Serial.{script_run}
use Rattle.ent_semantics.specs.Serial.{script_read_views, scripts_run, scripts_read_views, seen_from, read_views}
use Rattle.ent_form.specs.AllFaults.{fault_of, head_of}
use Rattle.ent_form.specs.Catalogue.{schemas_of}
use Rattle.ent_form.specs.Form.{script_in}
use Rattle.ent_form.specs.Kinds.{none_bound}
use Rattle.ent_form.specs.OpeningFault.{declarations_fault}
use Rattle.ent_form.specs.declared.fault.FormFault.{FormFault}
use Rattle.ent_form.specs.declared.script.Plain.{Plain}
use Rattle.ent_sql_laws.specs.Fits.{Each, StatementFits}
use Rattle.ent_history.proofs.Operations.{mapped_some, then_some}
use Rattle.ent_lists.specs.Elements.{In, all_first, all_index, all_second, in_either, in_first, in_second}
use Rattle.ent_report_laws.specs.Tellable.{AreAnswersTo}
use Rattle.ent_program_laws.specs.Answered.{AreTurnsAnswered, CanBeCounted, CanRun}
use Rattle.ent_program_laws.specs.Held.{HoldsValuesOf}
use Rattle.ent_program_laws.specs.Laws.{Laws}
use Rattle.ent_program_laws.proofs.Read.{AreRead}
use Rattle.ent_program_laws.proofs.Runs.{IsLeft, RunsOn, runs_on}
use Rattle.ent_program_laws.proofs.Stored.{IsStored}
use Rattle.ent_check.proofs.Along.{Resolves, resolved_so}
use Rattle.ent_program_laws.proofs.Walking.{IsReadViewTold, Behind, all_behind, operations_so}

-- ---- a script that can run

pub resolves : (found : Result Plain FormFault) → fault_of found ≡ None → (plain : Plain) × (found ≡ Ok plain)
resolves (Ok plain) e = (plain, refl)
resolves (Err fault) e = cc (e)

lines_are_read : (statements : List TreeStatement) → AreRead (flat_map line_spelling statements)
    → AllByRecursion (λ (tree : TreeStatement). AreRead (statement_spelling tree)) statements
lines_are_read [] can = tt
lines_are_read (statement ∷ more) can = (
  all_first CanBeRead (statement_spelling statement) (sign symbols.Semicolon ∷ [])
      (all_first CanBeRead (line_spelling statement) (flat_map line_spelling more) can),
  lines_are_read more (all_second CanBeRead (line_spelling statement) (flat_map line_spelling more) can),
)

statements_are_read : (script : Script) → IsReadable script
    → AllByRecursion (λ (tree : TreeStatement). AreRead (statement_spelling tree)) script.statements
statements_are_read script readable =
    let can = all_index CanBeRead (script_spelling script) readable in
    lines_are_read script.statements
    (all_first CanBeRead (flat_map line_spelling script.statements)
    (word (end_word script.end) ∷ sign symbols.Semicolon ∷ []) can.1.1.1.1.1.1)

nothing_held : HoldsValuesOf none_bound nothing_bound
nothing_held = record { kinds = λ name kind e. cc (e); values = λ name value e. cc (e) }

pub ended_some : (end : End) (o : Option Run) (r : Run) → ended end o ≡ Some r → o ≡ Some r
ended_some Commit o r e = e
ended_some Rollback o r e = cc (e)

pub one_runs : (x y : Runs) → Some x ≡ Some y → x ≡ y
one_runs x y e = cc

pub from_run : (o : Option Run) (f : Database → List ReadView) (s : ReadView) → In s (seen_from o f)
    → (r : Run) × (o ≡ Some r) × In s (f r.database)
from_run (Some r) f s at = (r, refl, at)
from_run None f s at = absurd at

-- ---- the operations of a turn

abbrev pub operations_in : Turn → Option (List Operation)
operations_in turn = operations_of turn.script.statements turn.oracle

module _ (declared : List Create) where
  pub turn_read_views : (turn : Turn) (database : Database) (operations : List Operation)
      → operations_in turn ≡ Some operations
      → script_read_views declared turn database ≡ read_views declared turn.tx 1 operations database nothing_bound
  turn_read_views turn database operations e = rw e refl

  pub no_turn_read_views : (turn : Turn) (database : Database) → operations_in turn ≡ None
      → script_read_views declared turn database ≡ []
  no_turn_read_views turn database e = rw e refl

  pub operations_run : (turn : Turn) (database : Database) (over : Run)
      → script_run declared turn.script turn.oracle database ≡ Some over
      → (operations : List Operation) × (operations_in turn ≡ Some operations)
      × (run declared operations database nothing_bound ≡ Some over)
  operations_run turn database over e =
      let from = λ (operations : List Operation). run declared operations database nothing_bound in
      then_some from (operations_in turn) over
      (ended_some turn.script.end (option_and_then from (operations_in turn)) over e)

module _ (laws : Laws) (declared : List Create) (none : declarations_fault [] declared ≡ None) where
  abbrev AllGrounded : List ReadView → Type 0
  AllGrounded all = (read_view : ReadView) → In read_view all → IsGrounded declared read_view

  -- ---- one turn

  -- what holds of a script alone
  pub record TurnRuns (turn : Turn) (database : Database) : Type 0 where
    pub plain : Plain
    pub made : script_in (schemas_of declared) turn.script ≡ Ok plain
    pub sees : (read_view : ReadView) → In read_view (script_read_views declared turn database)
        → IsReadViewTold turn.tx turn.script plain read_view
    pub leaves : (over : Run) → script_run declared turn.script turn.oracle database ≡ Some over
        → IsStored declared over.database
    pub tells : (over : Run) → script_run declared turn.script turn.oracle database ≡ Some over
        → AllByRecursion CanBeCounted over.answers → AreAnswersTo turn.script.statements over.answers

  pub turn_runs : (turn : Turn) → CanRun declared turn.script → (database : Database) → IsStored declared database
      → AllGrounded (script_read_views declared turn database) → TurnRuns turn database
  turn_runs turn can database stored grounded = by (operations_in turn) refl
    where
      script : Script
      script = turn.script

      found : (plain : Plain) × (script_in (schemas_of declared) turn.script ≡ Ok plain)
      found =
          resolves (script_in (schemas_of declared) turn.script)
          (laws.first (schemas_of declared) turn.script ∙ ap head_of can.resolved)

      onward : (operations : List Operation) → operations_in turn ≡ Some operations
          → RunsOn laws declared none turn.tx turn.script found.0 found.1 0 operations database nothing_bound
      onward operations is =
          let so = operations_so turn.script.statements turn.oracle operations is in
          let back = sym so.0 in
          let left : IsLeft laws declared none turn.tx turn.script found.0 found.1 0 none_bound operations
          found.0.statements = record {
            none_taken = so.1;
            resolves = subst (λ (all : List TreeStatement). Resolves (schemas_of declared) none_bound all
                found.0.statements) back (resolved_so (schemas_of declared) turn.script found.0 found.1);
            read = subst (λ (all : List TreeStatement).
                AllByRecursion (λ (tree : TreeStatement). AreRead (statement_spelling tree)) all) back
                (statements_are_read turn.script can.readable);
            fits = subst (λ (all : List TreeStatement). Each StatementFits all) back can.fits.3;
            trees_at = subst (λ (all : List TreeStatement). Behind 0 all turn.script.statements) back
                (all_behind turn.script.statements);
            forms_at = all_behind found.0.statements;
          } in
          runs_on laws declared none turn.tx turn.script found.0 found.1 0 none_bound operations found.0.statements left
          database stored nothing_bound nothing_held
          (λ read_view at. grounded read_view (subst (λ (all : List ReadView). In read_view all)
          (sym (turn_read_views declared turn database operations is)) at))

      leaves_so : (over : Run) → script_run declared turn.script turn.oracle database ≡ Some over
          → IsStored declared over.database
      leaves_so over e =
          let parts = operations_run declared turn database over e in (onward parts.0 parts.1).leaves over parts.2

      tells_so : (over : Run) → script_run declared turn.script turn.oracle database ≡ Some over
          → AllByRecursion CanBeCounted over.answers → AreAnswersTo turn.script.statements over.answers
      tells_so over e counted =
          let parts = operations_run declared turn database over e in
          subst (λ (all : List TreeStatement). AreAnswersTo all over.answers)
          (operations_so turn.script.statements turn.oracle parts.0 parts.1).0
          ((onward parts.0 parts.1).tells over parts.2 counted)

      sees_so : (o : Option (List Operation)) → operations_in turn ≡ o → (read_view : ReadView)
          → In read_view (script_read_views declared turn database)
          → IsReadViewTold turn.tx turn.script found.0 read_view
      sees_so (Some operations) is read_view at =
          (onward operations is).sees read_view
          (subst (λ (all : List ReadView). In read_view all) (turn_read_views declared turn database operations is) at)
      sees_so None is read_view at =
          absurd (subst (λ (all : List ReadView). In read_view all) (no_turn_read_views declared turn database is) at)

      by : (o : Option (List Operation)) → operations_in turn ≡ o → TurnRuns turn database
      by o is = record {
        plain = found.0;
        made = found.1;
        sees = sees_so o is;
        leaves = leaves_so;
        tells = tells_so;
      }

  -- ---- one turn after the other

  -- a read view of one of the turns
  abbrev pub IsTurnReadView : List Turn → ReadView → Type 0
  IsTurnReadView turns read_view =
      (turn : Turn) × (plain : Plain) × In turn turns × (script_in (schemas_of declared) turn.script ≡ Ok plain)
      × IsReadViewTold turn.tx turn.script plain read_view

  pub record TurnsRun (turns : List Turn) (database : Database) : Type 0 where
    pub sees : (read_view : ReadView) → In read_view (scripts_read_views declared turns database)
        → IsTurnReadView turns read_view
    pub leaves : (over : Runs) → scripts_run declared turns database ≡ Some over → IsStored declared over.database
    pub tells : (over : Runs) → scripts_run declared turns database ≡ Some over
        → AllByRecursion (AllByRecursion CanBeCounted) over.answers → AreTurnsAnswered turns over.answers

  pub turns_run : (turns : List Turn) → ((turn : Turn) → In turn turns → CanRun declared turn.script)
      → (database : Database) → IsStored declared database → AllGrounded (scripts_read_views declared turns database)
      → TurnsRun turns database
  turns_run [] can database stored grounded =
      let still : Runs = record { database = database; answers = [] } in
      record {
        sees = λ read_view nowhere. absurd nowhere;
        leaves = λ over e. subst (λ (r : Runs). IsStored declared r.database) (one_runs still over e) stored;
        tells = λ over e counted. subst (λ (r : Runs). AreTurnsAnswered [] r.answers) (one_runs still over e) tt;
      }
  turns_run (turn ∷ more) can database stored grounded =
      let alone = script_run declared turn.script turn.oracle database in
      let here = script_read_views declared turn database in
      let later = seen_from alone (scripts_read_views declared more) in
      let first = turn_runs turn (can turn (inl refl)) database stored
      (λ read_view at. grounded read_view (in_first here later read_view at)) in
      let behind : (over : Run) → alone ≡ Some over → TurnsRun more over.database =
      λ over is.
      turns_run more (λ other at. can other (inr at)) over.database (first.leaves over is)
      (λ read_view at. grounded read_view (in_second here later read_view
      (subst (λ (o : Option Run). In read_view (seen_from o (scripts_read_views declared more))) (sym is) at))) in
      let parts = λ (over : Runs) (e : scripts_run declared (turn ∷ more) database ≡ Some over).
      then_some (λ (r : Run). option_map (ran_first r.answers) (scripts_run declared more r.database)) alone over e in
      record {
        sees = λ read_view at. elim (in_either here later read_view at) [
          | inl now ↦ (turn, first.plain, inl refl, first.made, first.sees read_view now)
          | inr then ↦
              let r = from_run alone (scripts_read_views declared more) read_view then in
              let told = (behind r.0 r.1).sees read_view r.2 in
              (told.0, told.1, inr told.2, told.3, told.4)
        ];
        leaves = λ over e.
            let r = parts over e in
            let m = mapped_some (ran_first r.0.answers) (scripts_run declared more r.0.database) over r.2 in
            subst (λ (all : Runs). IsStored declared all.database) (sym m.2) ((behind r.0 r.1).leaves m.0 m.1);
        tells = λ over e counted.
            let r = parts over e in
            let m = mapped_some (ran_first r.0.answers) (scripts_run declared more r.0.database) over r.2 in
            let both : AllByRecursion (AllByRecursion CanBeCounted) (r.0.answers ∷ m.0.answers) =
            subst (λ (all : Runs). AllByRecursion (AllByRecursion CanBeCounted) all.answers) m.2 counted in
            subst (λ (all : Runs). AreTurnsAnswered (turn ∷ more) all.answers) (sym m.2)
            (first.tells r.0 r.1 both.0, (behind r.0 r.1).tells m.0 m.1 both.1);
      }
