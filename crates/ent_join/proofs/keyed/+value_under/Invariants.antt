use Rattle.std.proofs.Common.{length}
use Rattle.ent_join.proofs.keyed.+value_under.Given as goal

abbrev pub decreases-value_under : goal.decreases-value_under
decreases-value_under l = length l.columns.now
