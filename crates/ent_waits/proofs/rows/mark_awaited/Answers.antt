use Rattle.std.proofs.Common.{ℕ}
use Rattle.std.specs.Prelude.{IfSome, Option, None, Some}
use Rattle.ent_run.specs.Run.{Run}
use Rattle.ent_waits.specs.Rows.{HasMarksOf, MarksGroup}
use Rattle.ent_waits.proofs.Holders.{awaited_group}
use Rattle.ent_waits.proofs.rows.mark_awaited.Goals as goal

still_marked : (run : Run) (last : Option ℕ) (row new : ℕ) → HasMarksOf new row
    → IfSome last (λ (group : ℕ). MarksGroup run group row) → IfSome last (λ (group : ℕ). MarksGroup run group new)
still_marked run None row new kept marks = marks
still_marked run (Some group) row new kept marks = λ member there own place other stands is.
    kept place (marks member there own place other stands is)

pub returns-then-group-own-clause-last : goal.returns-then-group-own-clause-last
returns-then-group-own-clause-last c =
    still_marked c.args.run.now c.args.marked.last c.args.marked.row c.mark_one.result c.mark_one.ensures.kept
    c.requires

pub returns-else-group-own-clause-marked : goal.returns-else-group-own-clause-marked
returns-else-group-own-clause-marked c =
    awaited_group c.args.run.now c.args.own c.args.tx c.args.group c.mark_next_group.result.row c.if-group-own.false
    c.mark_next_group.ensures.marked
