use Rattle.std.proofs.Common.{◌≡◌, ◌≤◌, ◌++◌, length, map, take, vec_capacity}
use Rattle.ent_ordinary.specs.Worth.{worth_over}
use Rattle.ent_ordinary.proofs.row.shown_row.Given as goal

-- the values of the items so far; there is room for those of all
abbrev pub invariant-loop-item : goal.invariant-loop-item
invariant-loop-item l = record {
  shown : l.values.items ≡ map (worth_over (l.front ++ l.row)) (take l.item-index l.items);
  room : length l.items ≤ vec_capacity l.values;
}
