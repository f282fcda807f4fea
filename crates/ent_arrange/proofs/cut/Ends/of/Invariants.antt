use Rattle.std.proofs.Common.{length}
use Rattle.ent_arrange.proofs.cut.Ends.of.Given as goal

abbrev pub decreases-loop-front : goal.decreases-loop-front
decreases-loop-front l = length l.tokens
