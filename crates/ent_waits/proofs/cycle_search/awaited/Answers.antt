use Rattle.std.proofs.Common.{arith}
use Rattle.ent_waits.proofs.Stuck.{awaited_more}
use Rattle.ent_waits.proofs.cycle_search.awaited.Goals as goal

pub loop-row-init : goal.loop-row-init
loop-row-init c = λ i j below marked. absurd (omega (arith, below))

pub loop-row-preserved : goal.loop-row-preserved
loop-row-preserved c = awaited_more c.args.rows.now c.loop-row.awaited c.loop-row.row-index c.loop-row.invariant
