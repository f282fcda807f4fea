use Rattle.std.proofs.Common.{◌≡◌, ◌≤◌, ◌*◌, length, take}
use Rattle.std.specs.List.{flat_map}
use Rattle.ent_waits.specs.Waits.{pairs_while_waiting}
use Rattle.ent_waits.proofs.cycles.pairs_of.Given as goal

abbrev pub invariant-loop-place : goal.invariant-loop-place
invariant-loop-place l = record {
  so_far : l.pairs ≡ flat_map (pairs_while_waiting l.run l.submitted l.lent) (take l.place l.run.active);
  count : length l.pairs ≤ l.place * 64;
}
