use Rattle.std.proofs.Common.{ℕ, ◌<◌, get_or}
use Rattle.ent_semantics.specs.Pool.{CanMeet, Posted}
use Rattle.ent_match.proofs.demand.offerer.Given as goal

-- none of the statements so far has a head for the post
abbrev pub invariant-loop-owner : goal.invariant-loop-owner
invariant-loop-owner l =
    (k : ℕ) (d : Posted) → k < l.owner-index → CanMeet l.asker l.index (get_or l.members k d) → ⊥
