use Rattle.ent_group.proofs.Walks.{GreatestUpto}
use Rattle.ent_group.proofs.waits.greatest_on_cycle.Given as goal

abbrev pub invariant-loop-i : goal.invariant-loop-i
invariant-loop-i l = GreatestUpto l.pairs l.waiters l.i l.greatest
