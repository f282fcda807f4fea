use Rattle.std.proofs.Common.{refl}
use Rattle.ent_page.proofs.Sorted.{nil_sorted}
use Rattle.ent_page.proofs.key_set.KeySet.new.Goals as goal

pub invariant_of-result : goal.invariant_of-result
invariant_of-result c = rw c.new.ensures.items (record { sized = tt; sorted = nil_sorted; count = refl })
