-- One statement more.
use Rattle.std.proofs.Common.{◌≡◌, List, [], ◌∷◌, ◌++◌, refl, ap, ◌∙◌}
use Rattle.std.proofs.Common.{Option, Some, None, Result, Ok, Err}
use Rattle.std.specs.Option.{option_map, option_and_then}
use Rattle.ent_tree.specs.declared.declaration.Create.{Create}
use Rattle.ent_semantics.specs.declared.answer.Answer.{Answer}
use Rattle.ent_semantics.specs.declared.answer.Failure.{Failure}
use Rattle.ent_semantics.specs.Database.{Database, Environment}
use Rattle.ent_semantics.specs.Effect.{Effect}
use Rattle.ent_semantics.specs.Further.{behind, one_more}
use Rattle.ent_semantics.specs.Serial.{Operation, Run, answered_first, after, run}
use Rattle.ent_semantics.specs.Statement.{statement_meaning}

further : (answer : Answer) (answers : List Answer) (x : Result (Effect Database) Failure)
    → option_map (answered_first answer) (behind answers x) ≡ behind (answer ∷ answers) x
further answer answers (Ok effect) = refl
further answer answers (Err failure) = refl

over : (declared : List Create) (operation : Operation) (answer : Answer) (x : Option Run)
    → option_map (answered_first answer) (option_and_then (one_more declared operation) x)
    ≡ option_and_then (one_more declared operation) (option_map (answered_first answer) x)
over declared operation answer None = refl
over declared operation answer (Some stand) = further answer stand.answers _

step : (declared : List Create) (operation : Operation) (x : Result (Effect Database) Failure) (more : List Operation)
    → ((database : Database) (environment : Environment)
    → run declared (more ++ operation ∷ []) database environment
    ≡ option_and_then (one_more declared operation) (run declared more database environment))
    → after x (run declared (more ++ operation ∷ []))
    ≡ option_and_then (one_more declared operation) (after x (run declared more))
step declared operation (Err failure) more h = refl
step declared operation (Ok effect) more h =
    ap (option_map (answered_first effect.answer)) (h effect.database effect.environment)
    ∙ over declared operation effect.answer (run declared more effect.database effect.environment)

last : (x : Result (Effect Database) Failure)
    → after x (λ database environment. Some (record { database = database; environment = environment; answers = [] }))
    ≡ behind [] x
last (Ok effect) = refl
last (Err failure) = refl

pub run_pushed : (declared : List Create) (operations : List Operation) (operation : Operation) (database : Database)
    (environment : Environment) → run declared (operations ++ operation ∷ []) database environment
    ≡ option_and_then (one_more declared operation) (run declared operations database environment)
run_pushed declared [] operation database environment = last _
run_pushed declared (first ∷ more) operation database environment =
    step declared operation (statement_meaning declared first.statement first.valuation database environment) more
    (λ d e. run_pushed declared more operation d e)
