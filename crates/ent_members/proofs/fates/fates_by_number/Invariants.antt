use Rattle.std.proofs.Common.{◌≡◌, take}
use Rattle.ent_members.proofs.fates.fates_by_number.Given as goal

-- the fates so far
abbrev pub invariant-loop-fated : goal.invariant-loop-fated
invariant-loop-fated l = l.sorted.items ≡ take l.fated-index l.fates
