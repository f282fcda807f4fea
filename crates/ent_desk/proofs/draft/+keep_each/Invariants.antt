use Rattle.std.proofs.Common.{length}
use Rattle.ent_desk.proofs.draft.+keep_each.Given as goal

abbrev pub decreases-keep_each : goal.decreases-keep_each
decreases-keep_each l = length l.entries.now
