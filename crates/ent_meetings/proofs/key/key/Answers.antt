use Rattle.std.proofs.Common.{arith}
use Rattle.std.proofs.lemmas.Grind.{common_steps}
use Rattle.ent_meetings.specs.Keys.{key}
use Rattle.ent_meetings.proofs.key.key.Goals as goal

pub returns : goal.returns
unfolding key
returns c = grind (arith, common_steps)
