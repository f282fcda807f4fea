use Rattle.ent_waits.proofs.Stuck.{AreAwaited}
use Rattle.ent_waits.proofs.cycle_search.awaited.Given as goal

abbrev pub invariant-loop-row : goal.invariant-loop-row
invariant-loop-row l = AreAwaited l.rows l.awaited l.row-index
