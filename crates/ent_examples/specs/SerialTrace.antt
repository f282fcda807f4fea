-- The serial run as a trace: what stands at each place. Answers, databases and read views are read off it.
use Rattle.std.specs.Prelude.{◌≡◌, ℕ, suc, false, List, [], ◌∷◌, map, filter, filter_map, Contains}
use Rattle.std.specs.Prelude.{Option, Some, None, Result, Ok, Err}
use Rattle.std.specs.Option.{option_map, option_and_then, unwrap_or}
use Rattle.std.specs.Result.{result_ok}
use Rattle.ent_tree.specs.declared.declaration.Create.{Create}
use Rattle.ent_tree.specs.declared.script.Statement.{Statement}
use Rattle.ent_tree.specs.declared.script.Statement.TheVariants as statements
use Rattle.ent_semantics.specs.declared.answer.Failure.{Failure}
use Rattle.ent_semantics.specs.Change.{all_there}
use Rattle.ent_semantics.specs.Database.{Database, Environment, nothing_bound}
use Rattle.ent_semantics.specs.Effect.{Effect}
use Rattle.ent_semantics.specs.Entangled.{Valuation}
use Rattle.ent_semantics.specs.Serial.{Operation, Run, Runs, ReadView, Turn, operations_of, ended, is_entangled}
use Rattle.ent_semantics.specs.Statement.{statement_meaning}

-- ---- lists

-- the last of a list, or the given one where there is none
abbrev pub last_behind : {A : Type 0} → A → List A → A
last_behind x [] = x
last_behind x (y ∷ ys) = last_behind y ys

-- ---- a run of statements

-- A place of a run: the statement there, the oracle's answer to it, the database and the environment that stand there,
-- and what the statement leaves and answers, or its failure.
pub record Stage : Type 0 where
  pub place : ℕ
  pub statement : Statement
  pub valuation : Valuation
  pub database : Database
  pub environment : Environment
  pub outcome : Result (Effect Database) Failure

-- a statement's effect is where the run goes on; a failure ends it
abbrev pub goes_on : Result (Effect Database) Failure → (Database → Environment → List Stage) → List Stage
goes_on (Ok effect) more = more effect.database effect.environment
goes_on (Err failure) more = []

-- the run of statements with the oracle's answers to them, from a database and an environment, the first statement
-- having this place
abbrev pub serial_trace : List Create → ℕ → List Operation → Database → Environment → List Stage
serial_trace declared place [] database environment = []
serial_trace declared place (operation ∷ more) database environment =
    let outcome = statement_meaning declared operation.statement operation.valuation database environment in
    record {
      place = place;
      statement = operation.statement;
      valuation = operation.valuation;
      database = database;
      environment = environment;
      outcome = outcome;
    }
    ∷ goes_on outcome (serial_trace declared (suc place) more)

-- the effects of all its statements, or nothing where one failed
abbrev pub effects : List Stage → Option (List (Effect Database))
effects stages = all_there (map (λ stage. result_ok stage.outcome) stages)

-- what effects leave behind this database and environment, and their answers
abbrev pub left_by : Database → Environment → List (Effect Database) → Run
left_by database environment made =
    record {
      database = last_behind database (map (λ effect. effect.database) made);
      environment = last_behind environment (map (λ effect. effect.environment) made);
      answers = map (λ effect. effect.answer) made;
    }

-- what a transaction's entangled statement sees at a place
abbrev pub read_view_at : ℕ → Stage → Option ReadView
read_view_at tx stage = of_statement stage.statement
  where
    of_statement : Statement → Option ReadView
    of_statement (statements.Entangled entangled) =
        Some (record {
          tx = tx;
          place = stage.place;
          valuation = stage.valuation;
          entangled = entangled;
          database = stage.database;
          environment = stage.environment;
        })
    of_statement other = None

-- ---- a run of scripts

-- a script's run, with nothing bound at its beginning
pub record ScriptTrace : Type 0 where
  pub turn : Turn
  -- the database that it starts from
  pub database : Database
  -- its trace, from place 1; none where the oracle gives too few answers, or too many
  pub stages : Option (List Stage)

abbrev pub script_trace : List Create → Turn → Database → ScriptTrace
script_trace declared turn database =
    record {
      turn = turn;
      database = database;
      stages = option_map (λ operations. serial_trace declared 1 operations database nothing_bound)
          (operations_of turn.script.statements turn.oracle);
    }

-- what it leaves and answers, where it ends with COMMIT and no statement failed
abbrev pub kept : ScriptTrace → Option Run
kept own =
    ended own.turn.script.end
    (option_map (left_by own.database nothing_bound) (option_and_then effects own.stages))

-- what its entangled statements see
abbrev pub seen_in : ScriptTrace → List ReadView
seen_in own = filter_map (read_view_at own.turn.tx) (unwrap_or own.stages [])

-- the next script starts from what one leaves; where that is nothing, there is no next one
abbrev pub starts_from : Option Run → (Database → List ScriptTrace) → List ScriptTrace
starts_from None more = []
starts_from (Some run) more = more run.database

-- scripts one after the other
abbrev pub scripts_trace : List Create → List Turn → Database → List ScriptTrace
scripts_trace declared [] database = []
scripts_trace declared (turn ∷ more) database =
    let own = script_trace declared turn database in
    own ∷ starts_from (kept own) (scripts_trace declared more)

-- the last database that scripts leave behind this one, and the answers of each
abbrev pub runs_left : Database → List Run → Runs
runs_left database made =
    record {
      database = last_behind database (map (λ run. run.database) made);
      answers = map (λ run. run.answers) made;
    }

-- what they leave all together, or nothing where one leaves nothing
abbrev pub runs_in : Database → List ScriptTrace → Option Runs
runs_in database all = option_map (runs_left database) (all_there (map kept all))

-- ---- the oracle's answers

-- those whose statement is entangled
abbrev pub entangled_ones : List Operation → List Operation
entangled_ones operations = filter (λ operation. is_entangled operation.statement) operations

-- These are some statements, in order, with the oracle's answers to those that are entangled, in order; the others have
-- no value.
pub record AreOperations (asked : List Statement) (oracle : List Valuation) (operations : List Operation) : Type 0 where
  pub of_statements : map (λ operation. operation.statement) operations ≡ asked
  pub of_oracle : map (λ operation. operation.valuation) (entangled_ones operations) ≡ oracle
  pub others : (operation : Operation) → Contains operations operation → is_entangled operation.statement ≡ false
      → operation.valuation ≡ []
