use Rattle.std.proofs.Common.{refl}
use Rattle.ent_examples.proofs.TwicePlay.{last, played}
use Rattle.ent_examples.proofs.play.results_are_taken_once.Goals as goal

pub returns : goal.returns
returns g c resolved one two = (last one two, played one two, refl, refl)
