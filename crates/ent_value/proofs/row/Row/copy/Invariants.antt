use Rattle.std.proofs.Common.{◌≡◌, take}
use Rattle.ent_value.proofs.row.Row.copy.Given as goal

-- the values copied so far
abbrev pub invariant-loop-value : goal.invariant-loop-value
invariant-loop-value l = l.values.items ≡ take l.value-index l.value-items
