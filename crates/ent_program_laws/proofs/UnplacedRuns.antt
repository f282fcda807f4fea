-- What scripts leave and answer hangs on no place, and what their entangled statements see is the same, places aside.
use Rattle.std.proofs.Common.{◌≡◌, ℕ, suc, Bool, true, false, List, [], ◌∷◌, ◌++◌, map, refl, sym, ap, ◌∙◌}
use Rattle.std.proofs.Common.{Option, Some, None, Result, Ok, Err}
use Rattle.std.specs.Option.{option_map, option_and_then}
use Rattle.ent_tree.specs.Places.{unplaced_statement, unplaced_script}
use Rattle.ent_tree.specs.declared.declaration.Create.{Create}
use Rattle.ent_tree.specs.declared.script.Script.{Script}
use Rattle.ent_tree.specs.declared.script.Statement.{Statement}
use Rattle.ent_tree.specs.declared.script.Statement.TheVariants as statements
use Rattle.ent_semantics.specs.declared.answer.Failure.{Failure}
use Rattle.ent_semantics.specs.Database.{Database, Environment, nothing_bound}
use Rattle.ent_semantics.specs.Effect.{Effect}
use Rattle.ent_semantics.specs.Entangled.{Valuation}
use Rattle.ent_semantics.specs.Serial.{Operation, Run, ReadView, Turn, is_entangled, operation_first, with_answer}
use Rattle.ent_semantics.specs.Serial.{operations_of}
use Rattle.ent_semantics.specs.Serial.{after, run, ended, script_run, ran_first, scripts_run, seen, seen_after}
use Rattle.ent_semantics.specs.Serial.{read_views}
use Rattle.ent_semantics.specs.Serial.{script_read_views, seen_from, scripts_read_views}
use Rattle.ent_semantics.specs.Statement.{statement_meaning}
use Rattle.ent_lists.specs.Elements.{map_joined}
use Rattle.ent_program_laws.specs.Unplaced.{unplaced_create, unplaced_operation, unplaced_read_view, unplaced_turn}
use Rattle.ent_program_laws.proofs.Statements.{meaning_same}

-- ---- operations

first_same : (statement : Statement) (valuation : Valuation) (operations : Option (List Operation))
    → operation_first (unplaced_statement statement) valuation (option_map (map unplaced_operation) operations)
    ≡ option_map (map unplaced_operation) (operation_first statement valuation operations)
first_same statement valuation None = refl
first_same statement valuation (Some operations) = refl

answer_same : (statement : Statement) (entangled : Bool) (oracle : List Valuation)
    (f g : List Valuation → Option (List Operation))
    → ((others : List Valuation) → f others ≡ option_map (map unplaced_operation) (g others))
    → with_answer (unplaced_statement statement) entangled oracle f
    ≡ option_map (map unplaced_operation) (with_answer statement entangled oracle g)
answer_same statement false oracle f g same =
    ap (λ (operations : Option (List Operation)). operation_first (unplaced_statement statement) [] operations)
    (same oracle)
    ∙ first_same statement [] (g oracle)
answer_same statement true [] f g same = refl
answer_same statement true (valuation ∷ oracle) f g same =
    ap (λ (operations : Option (List Operation)). operation_first (unplaced_statement statement) valuation operations)
    (same oracle)
    ∙ first_same statement valuation (g oracle)

entangled_same : (statement : Statement) → is_entangled (unplaced_statement statement) ≡ is_entangled statement
entangled_same (statements.Select select) = refl
entangled_same (statements.Entangled entangled) = refl
entangled_same (statements.Insert insert) = refl
entangled_same (statements.Delete delete) = refl
entangled_same (statements.Update update) = refl
entangled_same (statements.Set set) = refl

pub operations_are : (all : List Statement) (oracle : List Valuation)
    → operations_of (map unplaced_statement all) oracle ≡ option_map (map unplaced_operation) (operations_of all oracle)
operations_are [] [] = refl
operations_are [] (valuation ∷ oracle) = refl
operations_are (statement ∷ more) oracle =
    ap (λ (b : Bool). with_answer (unplaced_statement statement) b oracle
    (λ others. operations_of (map unplaced_statement more) others)) (entangled_same statement)
    ∙ answer_same statement (is_entangled statement) oracle
    (λ others. operations_of (map unplaced_statement more) others)
    (λ others. operations_of more others) (λ others. operations_are more others)

-- ---- runs

operations_run : (declared : List Create) (operations : List Operation) (database : Database)
    (environment : Environment)
    → run (map unplaced_create declared) (map unplaced_operation operations) database environment
    ≡ run declared operations database environment
operations_run declared [] database environment = refl
operations_run declared (operation ∷ more) database environment =
    let here = meaning_same declared operation.statement operation.valuation database environment in
    let rest : (d : Database) (e : Environment)
    → run (map unplaced_create declared) (map unplaced_operation more) d e ≡ run declared more d e
    = λ d e. operations_run declared more d e in
    λ i. after (here i) (λ d e. rest d e i)

operations_run_if : (declared : List Create) (database : Database) (operations : Option (List Operation))
    → option_and_then (λ operations. run (map unplaced_create declared) operations database nothing_bound)
    (option_map (map unplaced_operation) operations)
    ≡ option_and_then (λ operations. run declared operations database nothing_bound) operations
operations_run_if declared database None = refl
operations_run_if declared database (Some operations) = operations_run declared operations database nothing_bound

pub script_run_same : (declared : List Create) (script : Script) (oracle : List Valuation) (database : Database)
    → script_run (map unplaced_create declared) (unplaced_script script) oracle database
    ≡ script_run declared script oracle database
script_run_same declared script oracle database =
    ap (λ (run : Option Run). ended script.end run)
    (ap (λ (operations : Option (List Operation)).
    option_and_then (λ operations. run (map unplaced_create declared) operations database nothing_bound) operations)
    (operations_are script.statements oracle)
    ∙ operations_run_if declared database (operations_of script.statements oracle))

pub scripts_run_same : (declared : List Create) (turns : List Turn) (database : Database)
    → scripts_run (map unplaced_create declared) (map unplaced_turn turns) database
    ≡ scripts_run declared turns database
scripts_run_same declared [] database = refl
scripts_run_same declared (turn ∷ more) database =
    let here = script_run_same declared turn.script turn.oracle database in
    let rest : (d : Database) → scripts_run (map unplaced_create declared) (map unplaced_turn more) d
    ≡ scripts_run declared more d = λ d. scripts_run_same declared more d in
    λ i. option_and_then (λ run. option_map (ran_first run.answers) (rest run.database i)) (here i)

-- ---- what is seen

statement_seen : (tx place : ℕ) (statement : Statement) (valuation : Valuation) (database : Database)
    (environment : Environment)
    → seen tx place (unplaced_operation (record { statement = statement; valuation = valuation })) database environment
    ≡ map unplaced_read_view
    (seen tx place (record { statement = statement; valuation = valuation }) database environment)
statement_seen tx place (statements.Select select) valuation database environment = refl
statement_seen tx place (statements.Entangled entangled) valuation database environment = refl
statement_seen tx place (statements.Insert insert) valuation database environment = refl
statement_seen tx place (statements.Delete delete) valuation database environment = refl
statement_seen tx place (statements.Update update) valuation database environment = refl
statement_seen tx place (statements.Set set) valuation database environment = refl

seen_after_each : (x : Result (Effect Database) Failure) (f : Database → Environment → List ReadView)
    → seen_after x (λ d e. map unplaced_read_view (f d e)) ≡ map unplaced_read_view (seen_after x f)
seen_after_each (Ok effect) f = refl
seen_after_each (Err failure) f = refl

read_views_are : (declared : List Create) (tx place : ℕ) (operations : List Operation) (database : Database)
    (environment : Environment)
    → read_views (map unplaced_create declared) tx place (map unplaced_operation operations) database environment
    ≡ map unplaced_read_view (read_views declared tx place operations database environment)
read_views_are declared tx place [] database environment = refl
read_views_are declared tx place (operation ∷ more) database environment =
    let now : List ReadView = seen tx place operation database environment in
    let later : Database → Environment → List ReadView = read_views declared tx (suc place) more in
    let here = statement_seen tx place operation.statement operation.valuation database environment in
    let meaning = meaning_same declared operation.statement operation.valuation database environment in
    let rest : (d : Database) (e : Environment)
    → read_views (map unplaced_create declared) tx (suc place) (map unplaced_operation more) d e
    ≡ map unplaced_read_view (later d e) = λ d e. read_views_are declared tx (suc place) more d e in
    (λ i. here i ++ seen_after (meaning i) (λ d e. rest d e i))
    ∙ ap (λ (others : List ReadView). map unplaced_read_view now ++ others)
    (seen_after_each (statement_meaning declared operation.statement operation.valuation database environment) later)
    ∙ sym (map_joined unplaced_read_view now
    (seen_after (statement_meaning declared operation.statement operation.valuation database environment) later))

-- what is seen of operations, where there are any
operations_read_views : List Create → ℕ → Database → Option (List Operation) → List ReadView
operations_read_views declared tx database None = []
operations_read_views declared tx database (Some operations) =
    read_views declared tx 1 operations database nothing_bound

by_operations : (declared : List Create) (turn : Turn) (database : Database) (operations : Option (List Operation))
    → operations_of turn.script.statements turn.oracle ≡ operations
    → script_read_views declared turn database ≡ operations_read_views declared turn.tx database operations
unfolding operations_read_views
by_operations declared turn database None is = rw is refl
by_operations declared turn database (Some operations) is = rw is refl

operations_read_views_are : (declared : List Create) (tx : ℕ) (database : Database)
    (operations : Option (List Operation))
    → operations_read_views (map unplaced_create declared) tx database (option_map (map unplaced_operation) operations)
    ≡ map unplaced_read_view (operations_read_views declared tx database operations)
unfolding operations_read_views
operations_read_views_are declared tx database None = refl
operations_read_views_are declared tx database (Some operations) =
    read_views_are declared tx 1 operations database nothing_bound

script_read_views_are : (declared : List Create) (turn : Turn) (database : Database)
    → script_read_views (map unplaced_create declared) (unplaced_turn turn) database
    ≡ map unplaced_read_view (script_read_views declared turn database)
script_read_views_are declared turn database =
    let operations : Option (List Operation) = operations_of turn.script.statements turn.oracle in
    by_operations (map unplaced_create declared) (unplaced_turn turn) database
    (option_map (map unplaced_operation) operations)
    (operations_are turn.script.statements turn.oracle)
    ∙ operations_read_views_are declared turn.tx database operations
    ∙ ap (map unplaced_read_view) (sym (by_operations declared turn database operations refl))

seen_from_each : (x : Option Run) (f : Database → List ReadView)
    → seen_from x (λ d. map unplaced_read_view (f d)) ≡ map unplaced_read_view (seen_from x f)
seen_from_each None f = refl
seen_from_each (Some run) f = refl

pub scripts_read_views_are : (declared : List Create) (turns : List Turn) (database : Database)
    → scripts_read_views (map unplaced_create declared) (map unplaced_turn turns) database
    ≡ map unplaced_read_view (scripts_read_views declared turns database)
scripts_read_views_are declared [] database = refl
scripts_read_views_are declared (turn ∷ more) database =
    let now : List ReadView = script_read_views declared turn database in
    let later : Database → List ReadView = scripts_read_views declared more in
    let here = script_read_views_are declared turn database in
    let ran = script_run_same declared turn.script turn.oracle database in
    let rest : (d : Database) → scripts_read_views (map unplaced_create declared) (map unplaced_turn more) d
    ≡ map unplaced_read_view (later d) = λ d. scripts_read_views_are declared more d in
    (λ i. here i ++ seen_from (ran i) (λ d. rest d i))
    ∙ ap (λ (others : List ReadView). map unplaced_read_view now ++ others)
    (seen_from_each (script_run declared turn.script turn.oracle database) later)
    ∙ sym (map_joined unplaced_read_view now (seen_from (script_run declared turn.script turn.oracle database) later))
