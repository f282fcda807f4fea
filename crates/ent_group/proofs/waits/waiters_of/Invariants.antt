use Rattle.ent_group.proofs.CycleWalk.{Waiting}
use Rattle.ent_group.proofs.waits.waiters_of.Given as goal

abbrev pub invariant-loop-waiter : goal.invariant-loop-waiter
invariant-loop-waiter l = Waiting l.pairs l.waiters l.waiter-index
