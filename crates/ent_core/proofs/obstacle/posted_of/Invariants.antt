use Rattle.std.proofs.Common.{◌≢◌, ◌<◌, ℕ, get_or}
use Rattle.ent_semantics.specs.Pool.{Posted}
use Rattle.ent_core.proofs.obstacle.posted_of.Given as goal

-- none of those so far is of the transaction
abbrev pub invariant-loop-query : goal.invariant-loop-query
invariant-loop-query l = (k : ℕ) (d : Posted) → k < l.query-index → (get_or l.posted k d).tx ≢ l.tx
