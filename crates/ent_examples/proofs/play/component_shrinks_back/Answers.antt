use Rattle.std.proofs.Common.{refl}
use Rattle.ent_examples.proofs.ShrunkPlay.{last, played}
use Rattle.ent_examples.proofs.play.component_shrinks_back.Goals as goal

pub returns : goal.returns
returns g c resolved one two three four = (last one two three four, played one two three four, refl, refl, refl)
