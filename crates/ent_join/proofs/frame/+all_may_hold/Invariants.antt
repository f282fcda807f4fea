use Rattle.std.proofs.Common.{length}
use Rattle.ent_join.proofs.frame.+all_may_hold.Given as goal

abbrev pub decreases-all_may_hold : goal.decreases-all_may_hold
decreases-all_may_hold l = length l.tests.now
