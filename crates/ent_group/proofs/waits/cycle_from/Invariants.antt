use Rattle.std.proofs.Common.{◌-◌}
use Rattle.ent_group.proofs.CycleWalk.{Searching}
use Rattle.ent_group.proofs.waits.cycle_from.Given as goal

abbrev pub invariant-loop-awaited : goal.invariant-loop-awaited
invariant-loop-awaited l = Searching l.pairs l.first l.reached l.next

abbrev pub decreases-loop-awaited : goal.decreases-loop-awaited
decreases-loop-awaited l = 64 - l.next
