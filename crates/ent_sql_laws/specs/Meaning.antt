-- What a script means where host variables have values from the start.
use Rattle.std.specs.Prelude.{List, Option}
use Rattle.std.specs.Option.{option_and_then, option_or}
use Rattle.ent_tree.specs.declared.declaration.Create.{Create}
use Rattle.ent_tree.specs.declared.script.Script.{Script}
use Rattle.ent_semantics.specs.Database.{Database, Environment}
use Rattle.ent_semantics.specs.Entangled.{Valuation}
use Rattle.ent_semantics.specs.Serial.{Run, ended, operations_of, run}
use Rattle.ent_bound.specs.Bound.{value_bound}
use Rattle.ent_bound.specs.declared.variable.BoundVariable.{BoundVariable}

-- an environment in which these variables have the values that are bound to them, whatever else they have
abbrev pub with_bound : List BoundVariable → Environment → Environment
with_bound variables environment name = option_or (value_bound variables name) (environment name)

-- a script alone from a database and an environment, with the oracle's answers to its entangled statements
abbrev pub script_run_from : List Create → Script → List Valuation → Database → Environment → Option Run
script_run_from declared script oracle database environment =
    ended script.end
    (option_and_then (λ operations. run declared operations database environment)
    (operations_of script.statements oracle))

-- a run with the bound values in its environment
abbrev pub run_with_bound : List BoundVariable → Run → Run
run_with_bound variables run = record run { environment = with_bound variables run.environment }
