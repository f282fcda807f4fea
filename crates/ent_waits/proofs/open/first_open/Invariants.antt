use Rattle.std.proofs.Common.{ℕ, ◌<◌}
use Rattle.ent_waits.specs.Open.{IsOpenAt}
use Rattle.ent_waits.proofs.open.first_open.Given as goal

-- no component begins at a place so far that is open
abbrev pub invariant-loop-place : goal.invariant-loop-place
invariant-loop-place l = (place : ℕ) → place < l.place → IsOpenAt l.members l.firsts l.tried l.lent place → ⊥
