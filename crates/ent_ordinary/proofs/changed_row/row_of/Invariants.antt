use Rattle.std.proofs.Common.{◌≡◌, take}
use Rattle.ent_ordinary.proofs.changed_row.row_of.Given as goal

-- the values so far
abbrev pub invariant-loop-value : goal.invariant-loop-value
invariant-loop-value l = l.row.items ≡ take l.value-index l.values
