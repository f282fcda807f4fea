use Rattle.std.proofs.Common.{length}
use Rattle.ent_join.proofs.made.+made_of.Given as goal

abbrev pub decreases-made_of : goal.decreases-made_of
decreases-made_of l = length l.made.now
