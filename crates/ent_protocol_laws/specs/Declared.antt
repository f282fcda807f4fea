-- Lent jobs see tables as they are declared.
use Rattle.std.specs.Prelude.{◌≡◌, List, Contains}
use Rattle.std.specs.List.{AllByRecursion}
use Rattle.ent_tree.specs.declared.declaration.Create.{Create}
use Rattle.ent_protocol.specs.Job.{Job, Numbered}
use Rattle.ent_protocol.specs.Member.{declared_kinds}
use Rattle.ent_protocol.specs.State.{State}

-- each table that a job sees has the kinds of columns that are declared under its number
abbrev pub SeesDeclared : List Create → Job → Type 0
SeesDeclared declared job =
    AllByRecursion (λ (seen : Numbered). seen.kinds ≡ declared_kinds declared seen.table) job.tables

abbrev pub LentIsDeclared : State → Type 0
LentIsDeclared s = (job : Job) → Contains s.lent job → SeesDeclared s.opening.tables job
