use Rattle.std.proofs.Common.{length}
use Rattle.ent_join.proofs.asked.+push_all_tests.Given as goal

abbrev pub decreases-push_all_tests : goal.decreases-push_all_tests
decreases-push_all_tests l = length l.members.now
