-- A run that goes on by one statement more.
use Rattle.std.specs.Prelude.{List, [], ◌∷◌, ◌++◌, Option, Some, None, Result, Ok, Err}
use Rattle.ent_tree.specs.declared.declaration.Create.{Create}
use Rattle.ent_semantics.specs.declared.answer.Answer.{Answer}
use Rattle.ent_semantics.specs.declared.answer.Failure.{Failure}
use Rattle.ent_semantics.specs.Database.{Database}
use Rattle.ent_semantics.specs.Effect.{Effect}
use Rattle.ent_semantics.specs.Serial.{Operation, Run}
use Rattle.ent_semantics.specs.Statement.{statement_meaning}

-- the effect of a statement behind the answers so far
abbrev pub behind : List Answer → Result (Effect Database) Failure → Option Run
behind answers (Ok effect) =
    Some (record {
      database = effect.database;
      environment = effect.environment;
      answers = answers ++ effect.answer ∷ [];
    })
behind answers (Err failure) = None

-- from where a run stands, one statement more
abbrev pub one_more : List Create → Operation → Run → Option Run
one_more declared operation run =
    behind run.answers
    (statement_meaning declared operation.statement operation.valuation run.database run.environment)
