use Rattle.std.proofs.Common.{length}
use Rattle.ent_join.proofs.asked.+push_all_indexes.Given as goal

abbrev pub decreases-push_all_indexes : goal.decreases-push_all_indexes
decreases-push_all_indexes l = length l.members.now
