use Rattle.std.proofs.Common.{length}
use Rattle.ent_members.proofs.conflict.+first_conflict.Given as goal

abbrev pub decreases-first_conflict : goal.decreases-first_conflict
decreases-first_conflict l = length l.asked.now
