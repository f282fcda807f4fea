use Rattle.std.proofs.Common.{refl}
use Rattle.ent_examples.proofs.GrownPlay.{last, played}
use Rattle.ent_examples.proofs.play.component_grows.Goals as goal

pub returns : goal.returns
returns g c resolved one two three = (last one two three, played one two three, refl, refl, refl)
