use Rattle.std.proofs.Common.{ℕ, ◌<◌, get_or}
use Rattle.ent_value.specs.declared.value.Value.{Value}
use Rattle.ent_semantics.specs.declared.entangled.Atom.{Atom}
use Rattle.ent_semantics.specs.Pool.{Unify}
use Rattle.ent_match.proofs.meets.has_head_for.Given as goal

-- none of the heads so far unifies with the post
abbrev pub invariant-loop-head : goal.invariant-loop-head
invariant-loop-head l =
    (k : ℕ) (d : Atom Value) → k < l.head-index
    → Unify l.posted.variables l.post l.offering.variables (get_or l.head-items k d) → ⊥
