use Rattle.ent_group.proofs.CycleWalk.{Closing}
use Rattle.ent_group.proofs.waits.close.Given as goal

abbrev pub invariant-loop-at : goal.invariant-loop-at
invariant-loop-at l = Closing l.pairs l.reached l.members l.at

abbrev pub decreases-loop-at : goal.decreases-loop-at
decreases-loop-at l = l.at
