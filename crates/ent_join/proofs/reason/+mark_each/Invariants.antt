use Rattle.std.proofs.Common.{length}
use Rattle.ent_join.proofs.reason.+mark_each.Given as goal

abbrev pub decreases-mark_each : goal.decreases-mark_each
decreases-mark_each l = length l.places.now
