use Rattle.std.proofs.Common.{length}
use Rattle.ent_core.proofs.joining.+push_members.Given as goal

abbrev pub decreases-push_members : goal.decreases-push_members
decreases-push_members l = length l.asked.now
