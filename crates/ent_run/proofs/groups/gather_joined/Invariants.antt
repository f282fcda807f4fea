use Rattle.std.proofs.Common.{◌≡◌, ◌≤◌, ◌+◌, ◌++◌, take, length}
use Rattle.ent_run.proofs.Merged.{numbers_among}
use Rattle.ent_run.proofs.groups.gather_joined.Given as goal

abbrev pub invariant-loop-place : goal.invariant-loop-place
invariant-loop-place l = record {
  so_far : l.joined ≡ l.fn.joined ++ numbers_among l.numbers (take l.place l.members);
  room : length l.joined ≤ length l.fn.joined + l.place;
  bound : length l.fn.joined + length l.members ≤ 64;
}
