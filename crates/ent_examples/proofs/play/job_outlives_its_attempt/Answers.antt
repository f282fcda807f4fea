use Rattle.std.proofs.Common.{refl}
use Rattle.ent_examples.proofs.EarlierPlay.{last, played}
use Rattle.ent_examples.proofs.play.job_outlives_its_attempt.Goals as goal

pub returns : goal.returns
returns g c resolved one two = (last one two, played one two, refl, refl, refl)
