use Rattle.std.proofs.Common.{◌≡◌, ◌≤◌, take, map, length}
use Rattle.ent_members.specs.Order.{tx_of}
use Rattle.ent_run.proofs.search.member_numbers.Given as goal

abbrev pub invariant-loop-member : goal.invariant-loop-member
invariant-loop-member l = record {
  so_far : l.numbers ≡ map tx_of (take l.member-index l.members);
  room : length l.numbers ≤ l.member-index;
  bound : length l.members ≤ 64;
}
