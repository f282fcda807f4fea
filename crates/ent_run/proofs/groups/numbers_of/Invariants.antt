use Rattle.std.proofs.Common.{◌≡◌, ◌≤◌, take, length}
use Rattle.ent_group.specs.Groups.{numbers_of}
use Rattle.ent_run.proofs.groups.numbers_of.Given as goal

abbrev pub invariant-loop-own : goal.invariant-loop-own
invariant-loop-own l = record {
  so_far : l.numbers ≡ numbers_of (take l.own-index l.memberships);
  room : length l.numbers ≤ l.own-index;
  bound : length l.memberships ≤ 64;
}
