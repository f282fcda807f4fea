use Rattle.std.proofs.Common.{◌≡◌, ◌++◌, take}
use Rattle.ent_ordinary.proofs.row.joined.Given as goal

-- the values of the front so far
abbrev pub invariant-loop-value : goal.invariant-loop-value
invariant-loop-value l = l.values.items ≡ take l.value-index l.front

-- the front, and the values of the row so far
abbrev pub invariant-loop-column : goal.invariant-loop-column
invariant-loop-column l = l.values.items ≡ l.front ++ take l.column l.row
