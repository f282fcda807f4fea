use Rattle.ent_undo.proofs.Undoing.{newest_first}
use Rattle.ent_undo.proofs.laws.rollback_goes_newest_first.Goals as goal

pub returns : goal.returns
returns c = newest_first
