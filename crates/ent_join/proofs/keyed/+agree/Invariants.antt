use Rattle.std.proofs.Common.{length}
use Rattle.ent_join.proofs.keyed.+agree.Given as goal

abbrev pub decreases-agree : goal.decreases-agree
decreases-agree l = length l.slots.now
