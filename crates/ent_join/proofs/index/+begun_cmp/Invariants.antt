use Rattle.std.proofs.Common.{length}
use Rattle.ent_join.proofs.index.+begun_cmp.Given as goal

abbrev pub decreases-begun_cmp : goal.decreases-begun_cmp
decreases-begun_cmp l = length l.classes.now
