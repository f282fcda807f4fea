use Rattle.std.proofs.Common.{◌≡◌, ◌≤◌, ◌+◌, ◌++◌, map, take, length}
use Rattle.ent_protocol.specs.Uses.{shared}
use Rattle.ent_members.proofs.uses.extend_shared.Given as goal

abbrev pub invariant-loop-table : goal.invariant-loop-table
invariant-loop-table l = record {
  so_far : l.uses ≡ l.fn.uses ++ map shared (take l.table-index l.tables);
  room : length l.fn.uses + length l.tables ≤ 64;
}
