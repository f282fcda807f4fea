use Rattle.std.proofs.Common.{ℕ, ◌↔◌, take}
use Rattle.ent_group.specs.Marks.{IsMarked}
use Rattle.ent_group.specs.Reach.{AreInPair}
use Rattle.ent_group.proofs.Walks.{Reaching}
use Rattle.ent_group.proofs.waits.reach_of.Given as goal

abbrev pub invariant-loop-waiter : goal.invariant-loop-waiter
invariant-loop-waiter l = (i j : ℕ) → IsMarked l.rows i j ↔ AreInPair (take l.waiter-index l.pairs) l.waiters i j

abbrev pub invariant-loop-middle : goal.invariant-loop-middle
invariant-loop-middle l = Reaching l.pairs l.waiters l.rows l.middle
