use Rattle.std.proofs.Common.{◌≡◌, ◌≤◌, take, length}
use Rattle.std.specs.List.{filter}
use Rattle.ent_group.specs.Groups.{numbers_of, is_of}
use Rattle.ent_group.proofs.groups.labelled.Given as goal

abbrev pub invariant-loop-membership : goal.invariant-loop-membership
invariant-loop-membership l = record {
  so_far : l.members ≡ numbers_of (filter (is_of l.group) (take l.membership-index l.memberships));
  room : length l.members ≤ l.membership-index;
  bound : length l.memberships ≤ 64;
}
