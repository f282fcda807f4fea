use Rattle.std.proofs.Common.{ℕ, ◌<◌}
use Rattle.std.specs.Prelude.{slice_index_or}
use Rattle.ent_semantics.specs.Pool.{Posted}
use Rattle.ent_plan.specs.Plan.{HasDistinctHeads}
use Rattle.ent_table_scenarios.proofs.choice.have_distinct_heads.Given as goal

abbrev pub invariant-loop-member : goal.invariant-loop-member
invariant-loop-member l =
    (k : ℕ) (d : Posted) → k < l.member-index → HasDistinctHeads (slice_index_or l.members k d)
