use Rattle.ent_members.proofs.Closed.{uses_of_closed}
use Rattle.ent_members.proofs.uses.uses_are_kept_by_closing.Goals as goal

pub returns : goal.returns
returns c = uses_of_closed
