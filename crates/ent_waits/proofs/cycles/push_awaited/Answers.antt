use Rattle.std.proofs.Common.{arith}
use Rattle.std.proofs.lemmas.Grind.{common_steps}
use Rattle.ent_waits.proofs.cycles.push_awaited.Goals as goal

pub loop-place-preserved : goal.loop-place-preserved
loop-place-preserved c =
    let is = c.at-other.ensures c.at-other.result in
    grind (arith, common_steps)
