use Rattle.std.proofs.Common.{length}
use Rattle.ent_join.proofs.made.+are_same_slots.Given as goal

abbrev pub decreases-are_same_slots : goal.decreases-are_same_slots
decreases-are_same_slots l = length l.slots.now
