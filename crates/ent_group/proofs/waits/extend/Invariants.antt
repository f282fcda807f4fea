use Rattle.ent_group.proofs.CycleWalk.{Extending}
use Rattle.ent_group.proofs.waits.extend.Given as goal

abbrev pub invariant-loop-waiter : goal.invariant-loop-waiter
invariant-loop-waiter l = Extending l.pairs l.fn.reached l.reached l.awaited l.waiter-index
