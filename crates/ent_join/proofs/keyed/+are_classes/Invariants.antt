use Rattle.std.proofs.Common.{length}
use Rattle.ent_join.proofs.keyed.+are_classes.Given as goal

abbrev pub decreases-are_classes : goal.decreases-are_classes
decreases-are_classes l = length l.columns.now
