use Rattle.std.proofs.Common.{ℕ, ◌<◌, ◌≤◌, get_or}
use Rattle.ent_semantics.specs.Pool.{Posted}
use Rattle.ent_match.proofs.pool.place_for.Given as goal

-- the statements so far are of no greater transaction
abbrev pub invariant-loop-i : goal.invariant-loop-i
invariant-loop-i l = (k : ℕ) (d : Posted) → k < l.i → (get_or l.members k d).tx ≤ l.member.tx
