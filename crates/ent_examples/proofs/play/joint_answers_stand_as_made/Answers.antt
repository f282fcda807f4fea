use Rattle.std.proofs.Common.{refl}
use Rattle.ent_examples.proofs.PairsPlay.{last, played}
use Rattle.ent_examples.proofs.play.joint_answers_stand_as_made.Goals as goal

pub returns : goal.returns
returns g c resolved askers = (last askers, played askers, refl, refl)
