use Rattle.ent_waits.proofs.Stuck.{CyclesAreStuck}
use Rattle.ent_waits.proofs.cycle_search.may_have_cycle.Given as goal

abbrev pub invariant-loop-round : goal.invariant-loop-round
invariant-loop-round l = CyclesAreStuck l.rows l.stuck
