use Rattle.std.proofs.Common.{refl}
use Rattle.ent_examples.proofs.LinkedPlay.{last, played}
use Rattle.ent_examples.proofs.play.linked_roll_back_together.Goals as goal

pub returns : goal.returns
returns g c resolved one two three = (last one two three, played one two three, refl, refl, refl, refl, refl)
