use Rattle.std.proofs.Common.{◌≡◌, ◌≤◌, ◌*◌, take, length}
use Rattle.std.specs.List.{flat_map}
use Rattle.ent_protocol.specs.Uses.{membership_uses}
use Rattle.ent_members.proofs.uses.entangled_uses.Given as goal

abbrev pub invariant-loop-membership : goal.invariant-loop-membership
invariant-loop-membership g l = record {
  so_far : l.uses ≡ flat_map membership_uses (take l.membership-index l.entangled.atoms);
  room : length l.uses ≤ l.membership-index * 4;
  limit : length l.entangled.atoms ≤ 16;
}
