use Rattle.ent_waits.proofs.Stuck.{AreStuck}
use Rattle.ent_waits.proofs.cycle_search.still_stuck.Given as goal

abbrev pub invariant-loop-place : goal.invariant-loop-place
invariant-loop-place l = AreStuck l.rows l.stuck l.waiting l.place
