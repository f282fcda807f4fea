use Rattle.std.proofs.Common.{refl}
use Rattle.ent_examples.proofs.HeldBackPlay.{last, played}
use Rattle.ent_examples.proofs.play.third_is_held_back.Goals as goal

pub returns : goal.returns
returns g c resolved one two third = (last one two third, played one two third, refl, refl)
