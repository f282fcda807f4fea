use Rattle.ent_renewal.proofs.Emptied.{drained_held}
use Rattle.ent_renewal.proofs.law.drained_tables_are_held.Goals as goal

pub returns : goal.returns
returns c = drained_held
