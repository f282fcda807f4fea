use Rattle.std.proofs.Common.{length}
use Rattle.ent_members.proofs.live.+remove_each.Given as goal

abbrev pub decreases-remove_each : goal.decreases-remove_each
decreases-remove_each l = length l.keys.now
