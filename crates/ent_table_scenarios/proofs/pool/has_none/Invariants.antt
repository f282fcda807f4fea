use Rattle.std.proofs.Common.{◌≢◌, ℕ, ◌<◌}
use Rattle.std.specs.Prelude.{slice_index_or}
use Rattle.ent_semantics.specs.Pool.{Posted}
use Rattle.ent_table_scenarios.proofs.pool.has_none.Given as goal

abbrev pub invariant-loop-other : goal.invariant-loop-other
invariant-loop-other l =
    (k : ℕ) (d : Posted) → k < l.other-index → (slice_index_or l.members k d).tx ≢ l.member.tx
