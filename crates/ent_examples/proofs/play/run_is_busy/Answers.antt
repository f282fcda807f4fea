use Rattle.std.proofs.Common.{refl}
use Rattle.ent_examples.proofs.BusyPlay.{last, played}
use Rattle.ent_examples.proofs.play.run_is_busy.Goals as goal

pub returns : goal.returns
returns g c resolved one two = (last one two, played one two, refl, refl, refl, refl)
