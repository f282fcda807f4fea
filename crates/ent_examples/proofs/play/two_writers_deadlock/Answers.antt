use Rattle.std.proofs.Common.{refl}
use Rattle.ent_examples.proofs.WritersPlay.{last, played}
use Rattle.ent_examples.proofs.play.two_writers_deadlock.Goals as goal

pub returns : goal.returns
returns c = (last, played, refl, refl, refl, refl, refl, refl)
