use Rattle.std.proofs.Common.{◌≢◌, ℕ, ◌<◌, slice_index_or}
use Rattle.ent_semantics.specs.Pool.{Posted}
use Rattle.ent_match.proofs.place.place_of.Given as goal

-- none of the statements so far is of the transaction
abbrev pub invariant-loop-place : goal.invariant-loop-place
invariant-loop-place l = (k : ℕ) (d : Posted) → k < l.place → (slice_index_or l.members k d).tx ≢ l.tx
