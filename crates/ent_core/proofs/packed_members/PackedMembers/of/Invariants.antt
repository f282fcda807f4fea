use Rattle.std.proofs.Common.{◌≡◌, take}
use Rattle.ent_core.proofs.packed_members.PackedMembers.of.Given as goal

abbrev pub invariant-loop-tx : goal.invariant-loop-tx
invariant-loop-tx l = l.packed ≡ take l.tx-index l.members
