use Rattle.std.proofs.Common.{length}
use Rattle.ent_join.proofs.frame.+candidates_after.Given as goal

abbrev pub decreases-candidates_after : goal.decreases-candidates_after
decreases-candidates_after l = length l.indexes.now
