use Rattle.std.proofs.Common.{◌≡◌, map, take}
use Rattle.ent_tree.proofs.declaration.OpeningRow.row.Given as goal

-- the values so far
abbrev pub invariant-loop-literal : goal.invariant-loop-literal
invariant-loop-literal l = l.values.items ≡ map (λ literal. literal.value) (take l.literal-index l.literal-items)
