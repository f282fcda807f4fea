-- In a serial run that gives something each entangled statement is seen.
use Rattle.std.proofs.Common.{◌≡◌, ℕ, zero, suc, ◌+◌, List, [], ◌∷◌, map, Option, Some, None, Result, Ok, Err}
use Rattle.std.proofs.Common.{slice_get}
use Rattle.std.proofs.Common.{refl, sym, ap, subst, ◌∙◌, inl, inr, arith}
use Rattle.std.specs.Option.{option_and_then, option_map}
use Rattle.ent_lists.specs.Elements.{In, in_first, in_second}
use Rattle.ent_tree.specs.declared.declaration.Create.{Create}
use Rattle.ent_tree.specs.declared.entangled.Entangled.{Entangled}
use Rattle.ent_tree.specs.declared.script.End.{End}
use Rattle.ent_tree.specs.declared.script.End.TheVariants.{Commit, Rollback}
use Rattle.ent_tree.specs.declared.script.Statement.{Statement}
use Rattle.ent_tree.specs.declared.script.Statement.TheVariants as statements
use Rattle.ent_semantics.specs.declared.answer.Failure.{Failure}
use Rattle.ent_semantics.specs.Database.{Database, Environment, nothing_bound}
use Rattle.ent_semantics.specs.Effect.{Effect}
use Rattle.ent_semantics.specs.Entangled.{Valuation}
use Rattle.ent_semantics.specs.Serial.{Operation, ReadView, Run, Runs, Turn, after, answered_first, ended, numbered}
use Rattle.ent_semantics.specs.Serial.{operations_of, ran_first, read_views, run, script_read_views, script_run}
use Rattle.ent_semantics.specs.Serial.{scripts_read_views, scripts_run, seen, seen_after, seen_from}
use Rattle.ent_semantics.specs.Statement.{statement_meaning}
use Rattle.ent_program_laws.proofs.Seeing.{operations_are, script_views, statement_of}

-- the statement of a place is seen by this transaction
pub record IsSeen (tx place : ℕ) (read_views : List ReadView) : Type 0 where
  pub read_view : ReadView
  pub at : In read_view read_views
  pub own : read_view.tx ≡ tx
  pub at_place : read_view.place ≡ place

one_statement : (first second : Statement) → Some first ≡ Some second → first ≡ second
one_statement first second e = cc

-- the read view of an entangled statement
abbrev sight : ℕ → ℕ → Valuation → Database → Environment → Entangled → ReadView
sight tx place valuation database environment entangled =
    record {
      tx = tx;
      place = place;
      valuation = valuation;
      entangled = entangled;
      database = database;
      environment = environment;
    }

goes_on : (outcome : Result (Effect Database) Failure) (more : Database → Environment → Option Run) (ran : Run)
    → after outcome more ≡ Some ran
    → (effect : Effect Database) × (outcome ≡ Ok effect)
    × ((rest : Run) × (more effect.database effect.environment ≡ Some rest))
goes_on (Ok effect) more ran is = (effect, refl, given (more effect.database effect.environment) is)
  where
    given : (o : Option Run) → option_map (answered_first effect.answer) o ≡ Some ran
        → (rest : Run) × (o ≡ Some rest)
    given (Some rest) is = (rest, refl)
    given None is = cc (is)
goes_on (Err failure) more ran is = cc (is)

module _ (declared : List Create) where
  pub statement_seen : (tx place : ℕ) (operations : List Operation) (database : Database) (environment : Environment)
      (ran : Run) (earlier : ℕ) (entangled : Entangled) → run declared operations database environment ≡ Some ran
      → slice_get (map statement_of operations) earlier ≡ Some (statements.Entangled entangled)
      → IsSeen tx (place + earlier) (read_views declared tx place operations database environment)
  statement_seen tx place [] database environment ran earlier entangled is there = cc (there)
  statement_seen tx place (operation ∷ more) database environment ran zero entangled is there =
      let rest = read_views declared tx (suc place) more in
      let outcome = statement_meaning declared operation.statement operation.valuation database environment in
      let here = one_statement operation.statement (statements.Entangled entangled) there in
      let read_view = sight tx place operation.valuation database environment entangled in
      let stands : In read_view (seen tx place operation database environment) =
      subst (λ (statement : Statement).
      In read_view (seen tx place (record { statement = statement; valuation = operation.valuation }) database
      environment)) (sym here) (inl refl) in
      let at_place : place ≡ place + 0 = omega arith in
      record {
        read_view = read_view;
        at = in_first (seen tx place operation database environment) (seen_after outcome rest) read_view stands;
        own = refl;
        at_place = at_place;
      }
  statement_seen tx place (operation ∷ more) database environment ran (suc earlier) entangled is there =
      let rest = read_views declared tx (suc place) more in
      let outcome = statement_meaning declared operation.statement operation.valuation database environment in
      let next = goes_on outcome (run declared more) ran is in
      let r = statement_seen tx (suc place) more next.0.database next.0.environment next.2.0 earlier entangled next.2.1
      there in
      let later : In r.read_view (seen_after outcome rest) =
      subst (λ (o : Result (Effect Database) Failure). In r.read_view (seen_after o rest)) (sym next.1) r.at in
      let at_place : suc place + earlier ≡ place + suc earlier = omega arith in
      record {
        read_view = r.read_view;
        at = in_second (seen tx place operation database environment) (seen_after outcome rest) r.read_view later;
        own = r.own;
        at_place = r.at_place ∙ at_place;
      }

  -- what a script's run was, where it gave something
  run_given : (end : End) (operations : Option (List Operation)) (database : Database) (ran : Run)
      → ended end (option_and_then (λ own. run declared own database nothing_bound) operations) ≡ Some ran
      → (own : List Operation) × (operations ≡ Some own) × (run declared own database nothing_bound ≡ Some ran)
  run_given Commit (Some operations) database ran is = (operations, refl, is)
  run_given Commit None database ran is = cc (is)
  run_given Rollback operations database ran is = cc (is)

  script_seen : (turn : Turn) (database : Database) (ran : Run) (place : ℕ) (entangled : Entangled)
      → script_run declared turn.script turn.oracle database ≡ Some ran
      → numbered turn.script.statements place ≡ Some (statements.Entangled entangled)
      → IsSeen turn.tx place (script_read_views declared turn database)
  script_seen turn database ran zero entangled is there = cc (there)
  script_seen turn database ran (suc earlier) entangled is there =
      let given = run_given turn.script.end (operations_of turn.script.statements turn.oracle) database ran is in
      let texts = operations_are turn.script.statements turn.oracle given.0 given.1 in
      let r = statement_seen turn.tx 1 given.0 database nothing_bound ran earlier entangled given.2
      (ap (λ (sts : List Statement). slice_get sts earlier) texts ∙ there) in
      let at_place : 1 + earlier ≡ suc earlier = omega arith in
      record {
        read_view = r.read_view;
        at = subst (In r.read_view) (sym (script_views declared turn database given.0 given.1)) r.at;
        own = r.own;
        at_place = r.at_place ∙ at_place;
      }

  -- the first script's run, and that of the others
  parted : (own : Option Run) (more : Database → Option Runs) (runs : Runs)
      → option_and_then (λ ran. option_map (ran_first ran.answers) (more ran.database)) own ≡ Some runs
      → (ran : Run) × (own ≡ Some ran) × ((rest : Runs) × (more ran.database ≡ Some rest))
  parted (Some ran) more runs is = (ran, refl, given (more ran.database) is)
    where
      given : (o : Option Runs) → option_map (ran_first ran.answers) o ≡ Some runs → (rest : Runs) × (o ≡ Some rest)
      given (Some rest) is = (rest, refl)
      given None is = cc (is)
  parted None more runs is = cc (is)

  pub scripts_seen : (turns : List Turn) (database : Database) (runs : Runs) (turn : Turn) (place : ℕ)
      (entangled : Entangled) → scripts_run declared turns database ≡ Some runs → In turn turns
      → numbered turn.script.statements place ≡ Some (statements.Entangled entangled)
      → IsSeen turn.tx place (scripts_read_views declared turns database)
  scripts_seen [] database runs turn place entangled is at there = absurd at
  scripts_seen (first ∷ more) database runs turn place entangled is (inl same) there =
      let given = parted (script_run declared first.script first.oracle database) (scripts_run declared more) runs is in
      let rest = seen_from (script_run declared first.script first.oracle database)
      (scripts_read_views declared more) in
      let r = script_seen first database given.0 place entangled given.1
      (subst (λ (t : Turn). numbered t.script.statements place ≡ Some (statements.Entangled entangled)) same there) in
      record {
        read_view = r.read_view;
        at = in_first (script_read_views declared first database) rest r.read_view r.at;
        own = r.own ∙ ap (λ (t : Turn). t.tx) (sym same);
        at_place = r.at_place;
      }
  scripts_seen (first ∷ more) database runs turn place entangled is (inr later) there =
      let given = parted (script_run declared first.script first.oracle database) (scripts_run declared more) runs is in
      let rest = scripts_read_views declared more in
      let r = scripts_seen more given.0.database given.2.0 turn place entangled given.2.1 later there in
      let stands : In r.read_view (seen_from (script_run declared first.script first.oracle database) rest) =
      subst (λ (o : Option Run). In r.read_view (seen_from o rest)) (sym given.1) r.at in
      record {
        read_view = r.read_view;
        at = in_second (script_read_views declared first database)
            (seen_from (script_run declared first.script first.oracle database) rest) r.read_view stands;
        own = r.own;
        at_place = r.at_place;
      }
