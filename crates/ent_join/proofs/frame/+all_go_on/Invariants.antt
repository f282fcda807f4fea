use Rattle.std.proofs.Common.{length}
use Rattle.ent_join.proofs.frame.+all_go_on.Given as goal

abbrev pub decreases-all_go_on : goal.decreases-all_go_on
decreases-all_go_on l = length l.indexes.now
