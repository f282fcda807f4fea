use Rattle.std.proofs.Common.{length}
use Rattle.ent_join.proofs.domain.+is_empty_domain.Given as goal

abbrev pub decreases-is_empty_domain : goal.decreases-is_empty_domain
decreases-is_empty_domain l = length l.leaders.now
