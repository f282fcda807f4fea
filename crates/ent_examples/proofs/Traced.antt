-- Runs of statements and of scripts, and their read views, are read off traces.
use Rattle.std.proofs.Common.{◌≡◌, ℕ, suc, List, [], ◌∷◌, ◌++◌, map, refl, sym, ap, ◌∙◌}
use Rattle.std.proofs.Common.{Option, Some, None, Result, Ok, Err, filter_map, flat_map, option_map, option_and_then}
use Rattle.std.specs.List.{cons_option}
use Rattle.std.specs.Option.{unwrap_or}
use Rattle.ent_tree.specs.declared.declaration.Create.{Create}
use Rattle.ent_tree.specs.declared.script.Statement.{Statement}
use Rattle.ent_tree.specs.declared.script.Statement.TheVariants as statements
use Rattle.ent_semantics.specs.declared.answer.Failure.{Failure}
use Rattle.ent_semantics.specs.Database.{Database, Environment, nothing_bound}
use Rattle.ent_semantics.specs.Effect.{Effect}
use Rattle.ent_semantics.specs.Entangled.{Valuation}
use Rattle.ent_semantics.specs.Serial.{Operation, Run, ReadView, Turn, after, answered_first, operations_of}
use Rattle.ent_semantics.specs.Serial.{ended, ran_first, run, script_run, script_read_views, scripts_run}
use Rattle.ent_semantics.specs.Serial.{scripts_read_views, seen, seen_after, seen_from, read_views}
use Rattle.ent_semantics.specs.Statement.{statement_meaning}
use Rattle.ent_semantics.specs.Change.{all_there}
use Rattle.ent_examples.specs.SerialTrace.{Stage, effects, goes_on, kept, left_by, runs_in}
use Rattle.ent_examples.specs.SerialTrace.{read_view_at, runs_left, script_trace, scripts_trace, seen_in}
use Rattle.ent_examples.specs.SerialTrace.{serial_trace, starts_from}

-- ---- statements

abbrev stage_of : ℕ → Operation → Database → Environment → Result (Effect Database) Failure → Stage
stage_of place operation database environment outcome =
    record {
      place = place;
      statement = operation.statement;
      valuation = operation.valuation;
      database = database;
      environment = environment;
      outcome = outcome;
    }

first_effect : (effect : Effect Database) (database : Database) (environment : Environment)
    (made : Option (List (Effect Database)))
    → option_map (answered_first effect.answer) (option_map (left_by effect.database effect.environment) made)
    ≡ option_map (left_by database environment) (option_map (λ others. effect ∷ others) made)
first_effect effect database environment (Some made) = refl
first_effect effect database environment None = refl

module _ (declared : List Create) where
  goes : (place : ℕ) (operation : Operation) (more : List Operation) (database : Database) (environment : Environment)
      (outcome : Result (Effect Database) Failure)
      → ((d : Database) (e : Environment)
      → run declared more d e ≡ option_map (left_by d e) (effects (serial_trace declared (suc place) more d e)))
      → after outcome (run declared more)
      ≡ option_map (left_by database environment)
      (effects
      (stage_of place operation database environment outcome
      ∷ goes_on outcome (serial_trace declared (suc place) more)))
  goes place operation more database environment (Ok effect) h =
      ap (option_map (answered_first effect.answer)) (h effect.database effect.environment)
      ∙ first_effect effect database environment
      (effects (serial_trace declared (suc place) more effect.database effect.environment))
  goes place operation more database environment (Err failure) h = refl

  pub run_is : (place : ℕ) (operations : List Operation) (database : Database) (environment : Environment)
      → run declared operations database environment
      ≡ option_map (left_by database environment)
      (effects (serial_trace declared place operations database environment))
  run_is place [] database environment = refl
  run_is place (operation ∷ more) database environment =
      goes place operation more database environment
      (statement_meaning declared operation.statement operation.valuation database environment)
      (λ d e. run_is (suc place) more d e)

  one_read_view : (tx place : ℕ) (statement : Statement) (valuation : Valuation) (database : Database)
      (environment : Environment) (outcome : Result (Effect Database) Failure) (more : List ReadView)
      → seen tx place (record { statement = statement; valuation = valuation }) database environment ++ more
      ≡ cons_option
      (read_view_at tx
      (stage_of place (record { statement = statement; valuation = valuation }) database environment outcome)) more
  one_read_view tx place (statements.Entangled entangled) valuation database environment outcome more = refl
  one_read_view tx place (statements.Select select) valuation database environment outcome more = refl
  one_read_view tx place (statements.Insert insert) valuation database environment outcome more = refl
  one_read_view tx place (statements.Delete delete) valuation database environment outcome more = refl
  one_read_view tx place (statements.Update update) valuation database environment outcome more = refl
  one_read_view tx place (statements.Set set) valuation database environment outcome more = refl

  goes_seen : (tx place : ℕ) (more : List Operation) (outcome : Result (Effect Database) Failure)
      → ((d : Database) (e : Environment)
      → read_views declared tx place more d e ≡ filter_map (read_view_at tx) (serial_trace declared place more d e))
      → seen_after outcome (read_views declared tx place more)
      ≡ filter_map (read_view_at tx) (goes_on outcome (serial_trace declared place more))
  goes_seen tx place more (Ok effect) h = h effect.database effect.environment
  goes_seen tx place more (Err failure) h = refl

  pub read_views_are : (tx place : ℕ) (operations : List Operation) (database : Database) (environment : Environment)
      → read_views declared tx place operations database environment
      ≡ filter_map (read_view_at tx) (serial_trace declared place operations database environment)
  read_views_are tx place [] database environment = refl
  read_views_are tx place (operation ∷ more) database environment =
      let outcome = statement_meaning declared operation.statement operation.valuation database environment in
      ap (λ others. seen tx place operation database environment ++ others)
      (goes_seen tx (suc place) more outcome (λ d e. read_views_are tx (suc place) more d e))
      ∙ one_read_view tx place operation.statement operation.valuation database environment outcome
      (filter_map (read_view_at tx) (goes_on outcome (serial_trace declared (suc place) more)))

  -- ---- scripts

  of_operations : (database : Database) (operations : Option (List Operation))
      → option_and_then (λ own. run declared own database nothing_bound) operations
      ≡ option_map (left_by database nothing_bound)
      (option_and_then effects (option_map (λ own. serial_trace declared 1 own database nothing_bound) operations))
  of_operations database (Some operations) = run_is 1 operations database nothing_bound
  of_operations database None = refl

  pub script_is : (turn : Turn) (database : Database)
      → script_run declared turn.script turn.oracle database ≡ kept (script_trace declared turn database)
  script_is turn database =
      ap (ended turn.script.end) (of_operations database (operations_of turn.script.statements turn.oracle))

  abbrev sees : Turn → Database → Option (List Operation) → List ReadView
  sees turn database operations =
      filter_map (read_view_at turn.tx)
      (unwrap_or (option_map (λ own. serial_trace declared 1 own database nothing_bound) operations) [])

  pub script_read_views_are : (turn : Turn) (database : Database)
      → script_read_views declared turn database ≡ seen_in (script_trace declared turn database)
  script_read_views_are turn database = by (operations_of turn.script.statements turn.oracle) refl
    where
      by : (operations : Option (List Operation)) → operations_of turn.script.statements turn.oracle ≡ operations
          → script_read_views declared turn database ≡ seen_in (script_trace declared turn database)
      by (Some operations) is =
          let now : script_read_views declared turn database
          ≡ read_views declared turn.tx 1 operations database nothing_bound
          = rw is refl in
          now ∙ read_views_are turn.tx 1 operations database nothing_bound ∙ sym (ap (sees turn database) is)
      by None is =
          let now : script_read_views declared turn database ≡ [] = rw is refl in
          now ∙ sym (ap (sees turn database) is)

  first_run : (own : Run) (database : Database) (made : Option (List Run))
      → option_map (ran_first own.answers) (option_map (runs_left own.database) made)
      ≡ option_map (runs_left database) (option_map (λ others. own ∷ others) made)
  first_run own database (Some made) = refl
  first_run own database None = refl

  next_scripts : (database : Database) (more : List Turn) (own : Option Run)
      → ((d : Database) → scripts_run declared more d ≡ runs_in d (scripts_trace declared more d))
      → option_and_then (λ run. option_map (ran_first run.answers) (scripts_run declared more run.database)) own
      ≡ option_map (runs_left database) (all_there (own ∷ map kept (starts_from own (scripts_trace declared more))))
  next_scripts database more (Some own) h =
      ap (option_map (ran_first own.answers)) (h own.database)
      ∙ first_run own database (all_there (map kept (scripts_trace declared more own.database)))
  next_scripts database more None h = refl

  pub scripts_are : (turns : List Turn) (database : Database)
      → scripts_run declared turns database ≡ runs_in database (scripts_trace declared turns database)
  scripts_are [] database = refl
  scripts_are (turn ∷ more) database =
      ap (option_and_then (λ run. option_map (ran_first run.answers) (scripts_run declared more run.database)))
      (script_is turn database)
      ∙ next_scripts database more (kept (script_trace declared turn database)) (λ d. scripts_are more d)

  next_read_views : (more : List Turn) (own : Option Run)
      → ((d : Database) → scripts_read_views declared more d ≡ flat_map seen_in (scripts_trace declared more d))
      → seen_from own (scripts_read_views declared more)
      ≡ flat_map seen_in (starts_from own (scripts_trace declared more))
  next_read_views more (Some own) h = h own.database
  next_read_views more None h = refl

  pub scripts_read_views_are : (turns : List Turn) (database : Database)
      → scripts_read_views declared turns database ≡ flat_map seen_in (scripts_trace declared turns database)
  scripts_read_views_are [] database = refl
  scripts_read_views_are (turn ∷ more) database =
      ap (λ (own : List ReadView).
      own ++ seen_from (script_run declared turn.script turn.oracle database) (scripts_read_views declared more))
      (script_read_views_are turn database)
      ∙ ap (λ (own : Option Run).
      seen_in (script_trace declared turn database) ++ seen_from own (scripts_read_views declared more))
      (script_is turn database)
      ∙ ap (λ (others : List ReadView). seen_in (script_trace declared turn database) ++ others)
      (next_read_views more (kept (script_trace declared turn database)) (λ d. scripts_read_views_are more d))
