use Rattle.std.proofs.Common.{◌≡◌, take}
use Rattle.ent_core.proofs.packed_members.PackedMembers.unpacked.Given as goal

abbrev pub invariant-loop-number : goal.invariant-loop-number
invariant-loop-number l = l.members ≡ take l.number-index l.self
