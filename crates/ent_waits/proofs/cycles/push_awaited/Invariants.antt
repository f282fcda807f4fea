use Rattle.std.proofs.Common.{◌≡◌, ◌≤◌, ◌+◌, ◌++◌, length, take}
use Rattle.std.specs.List.{flat_map}
use Rattle.ent_waits.specs.Waits.{pair_if_awaited}
use Rattle.ent_waits.proofs.cycles.push_awaited.Given as goal

abbrev pub invariant-loop-place : goal.invariant-loop-place
invariant-loop-place l = record {
  so_far : l.pairs ≡ l.fn.pairs ++ flat_map (pair_if_awaited l.run l.asker l.asked) (take l.place l.run.active);
  count : length l.pairs ≤ length l.fn.pairs + l.place;
}
