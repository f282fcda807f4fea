use Rattle.std.proofs.Common.{refl}
use Rattle.ent_examples.proofs.FailurePlay.{last, played}
use Rattle.ent_examples.proofs.play.failure_takes_the_group_back.Goals as goal

pub returns : goal.returns
returns g c resolved one two = (last one two, played one two, refl, refl)
