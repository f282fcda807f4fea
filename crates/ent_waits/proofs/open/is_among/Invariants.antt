use Rattle.std.proofs.Common.{◌≢◌, ℕ, ◌<◌, List, slice_index_or}
use Rattle.ent_semantics.specs.Pool.{Posted}
use Rattle.ent_match.specs.Components.{component_at}
use Rattle.ent_waits.proofs.open.is_among.Given as goal

-- it is none of the lists so far
abbrev pub invariant-loop-other : goal.invariant-loop-other
invariant-loop-other l =
    (k : ℕ) (d : List Posted) → k < l.other-index
    → slice_index_or l.lists k d ≢ component_at l.firsts l.place l.members
