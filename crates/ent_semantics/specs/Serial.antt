-- Scripts that run alone, one after the other, with an oracle that answers their entangled statements.
use Rattle.std.specs.Prelude.{ℕ, zero, suc, Bool, true, false, List, [], ◌∷◌, ◌++◌, Option, Some, None, Result, Ok, Err}
use Rattle.std.specs.Prelude.{slice_get}
use Rattle.std.specs.Option.{option_map, option_and_then}
use Rattle.ent_tree.specs.declared.declaration.Create.{Create}
use Rattle.ent_tree.specs.declared.entangled.Entangled.{Entangled}
use Rattle.ent_tree.specs.declared.script.End.{End}
use Rattle.ent_tree.specs.declared.script.End.TheVariants.{Commit, Rollback}
use Rattle.ent_tree.specs.declared.script.Script.{Script}
use Rattle.ent_tree.specs.declared.script.Statement.{Statement}
use Rattle.ent_tree.specs.declared.script.Statement.TheVariants as statements
use Rattle.ent_semantics.specs.declared.answer.Answer.{Answer}
use Rattle.ent_semantics.specs.declared.answer.Failure.{Failure}
use Rattle.ent_semantics.specs.Database.{Database, Environment, nothing_bound}
use Rattle.ent_semantics.specs.Effect.{Effect}
use Rattle.ent_semantics.specs.Entangled.{Valuation}
use Rattle.ent_semantics.specs.Statement.{statement_meaning}

-- a statement, and the oracle's answer to it: no value where it isn't entangled
pub record Operation : Type 0 where
  pub statement : Statement
  pub valuation : Valuation

abbrev pub is_entangled : Statement → Bool
is_entangled (statements.Entangled entangled) = true
is_entangled other = false

abbrev pub operation_first : Statement → Valuation → Option (List Operation) → Option (List Operation)
operation_first statement valuation operations =
    option_map (λ more. record { statement = statement; valuation = valuation } ∷ more) operations

-- an entangled statement takes the oracle's next answer; where there is none, there are no operations
abbrev pub with_answer : Statement → Bool → List Valuation → (List Valuation → Option (List Operation))
    → Option (List Operation)
with_answer statement false oracle more = operation_first statement [] (more oracle)
with_answer statement true [] more = None
with_answer statement true (valuation ∷ oracle) more = operation_first statement valuation (more oracle)

-- statements with the oracle's answers to the entangled ones; too few answers, or too many, give nothing
abbrev pub operations_of : List Statement → List Valuation → Option (List Operation)
operations_of [] [] = Some []
operations_of [] (valuation ∷ oracle) = None
operations_of (statement ∷ more) oracle =
    with_answer statement (is_entangled statement) oracle (λ others. operations_of more others)

-- what a run of statements leaves, and what each answered, in order
pub record Run : Type 0 where
  pub database : Database
  pub environment : Environment
  pub answers : List Answer

abbrev pub answered_first : Answer → Run → Run
answered_first answer run = record run { answers = answer ∷ run.answers }

-- goes on with the effect of a statement; a failure gives nothing
abbrev pub after : Result (Effect Database) Failure → (Database → Environment → Option Run) → Option Run
after (Ok effect) more = option_map (answered_first effect.answer) (more effect.database effect.environment)
after (Err failure) more = None

-- statements one after the other, from a database and an environment
abbrev pub run : List Create → List Operation → Database → Environment → Option Run
run declared [] database environment =
    Some (record { database = database; environment = environment; answers = [] })
run declared (operation ∷ more) database environment =
    after (statement_meaning declared operation.statement operation.valuation database environment) (run declared more)

-- COMMIT keeps what was run; ROLLBACK gives nothing
abbrev pub ended : End → Option Run → Option Run
ended Commit run = run
ended Rollback run = None

-- a script alone from a database, nothing bound yet, with the oracle's answers to its entangled statements
abbrev pub script_run : List Create → Script → List Valuation → Database → Option Run
script_run declared script oracle database =
    ended script.end
    (option_and_then (λ operations. run declared operations database nothing_bound)
    (operations_of script.statements oracle))

-- a transaction's turn: its number, its script, and the oracle's answers
pub record Turn : Type 0 where
  pub tx : ℕ
  pub script : Script
  pub oracle : List Valuation

-- the database that scripts leave, and the answers of each
pub record Runs : Type 0 where
  pub database : Database
  pub answers : List (List Answer)

abbrev pub ran_first : List Answer → Runs → Runs
ran_first answers runs = record runs { answers = answers ∷ runs.answers }

-- scripts one after the other, each from what the one before left
abbrev pub scripts_run : List Create → List Turn → Database → Option Runs
scripts_run declared [] database = Some (record { database = database; answers = [] })
scripts_run declared (turn ∷ more) database =
    option_and_then (λ run. option_map (ran_first run.answers) (scripts_run declared more run.database))
    (script_run declared turn.script turn.oracle database)

-- An entangled statement of such a run: its transaction, its place, the oracle's answer, and the database and the
-- environment that it sees.
pub record ReadView : Type 0 where
  pub tx : ℕ
  pub place : ℕ
  pub valuation : Valuation
  pub entangled : Entangled
  pub database : Database
  pub environment : Environment

-- what an entangled statement of this place sees
abbrev pub seen : ℕ → ℕ → Operation → Database → Environment → List ReadView
seen tx place operation database environment = seen_by operation.statement
  where
    seen_by : Statement → List ReadView
    seen_by (statements.Entangled entangled) =
        record {
          tx = tx;
          place = place;
          valuation = operation.valuation;
          entangled = entangled;
          database = database;
          environment = environment;
        }
        ∷ []
    seen_by other = []

-- goes on with the effect of a statement; after a failure nothing is seen
abbrev pub seen_after : Result (Effect Database) Failure → (Database → Environment → List ReadView) → List ReadView
seen_after (Ok effect) more = more effect.database effect.environment
seen_after (Err failure) more = []

-- what the entangled statements of a run see, the first statement having this place
abbrev pub read_views : List Create → ℕ → ℕ → List Operation → Database → Environment → List ReadView
read_views declared tx place [] database environment = []
read_views declared tx place (operation ∷ more) database environment =
    seen tx place operation database environment
    ++ seen_after (statement_meaning declared operation.statement operation.valuation database environment)
    (read_views declared tx (suc place) more)

-- what the entangled statements of a script see; places count from 1
abbrev pub script_read_views : List Create → Turn → Database → List ReadView
script_read_views declared turn database = of_operations (operations_of turn.script.statements turn.oracle)
  where
    of_operations : Option (List Operation) → List ReadView
    of_operations (Some operations) = read_views declared turn.tx 1 operations database nothing_bound
    of_operations None = []

-- goes on from what a script leaves; after one whose run gives nothing, nothing is seen
abbrev pub seen_from : Option Run → (Database → List ReadView) → List ReadView
seen_from (Some run) more = more run.database
seen_from None more = []

-- what the entangled statements of scripts see that run one after the other
abbrev pub scripts_read_views : List Create → List Turn → Database → List ReadView
scripts_read_views declared [] database = []
scripts_read_views declared (turn ∷ more) database =
    script_read_views declared turn database
    ++ seen_from (script_run declared turn.script turn.oracle database) (scripts_read_views declared more)

-- the element of a number, counted from 1
abbrev pub numbered : {A : Type 0} → List A → ℕ → Option A
numbered xs zero = None
numbered xs (suc n) = slice_get xs n
