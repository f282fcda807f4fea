use Rattle.std.proofs.Common.{◌≡◌, map, take}
use Rattle.ent_plan.specs.Pairs.{placed_heads, seen}
use Rattle.ent_plan.proofs.pair.heads_of.Given as goal

-- the heads of the members so far
abbrev pub invariant-loop-place : goal.invariant-loop-place
invariant-loop-place l = map seen l.placed.items ≡ placed_heads (take l.place l.members)
