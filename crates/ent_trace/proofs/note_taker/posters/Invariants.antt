use Rattle.std.proofs.Common.{◌≡◌, ℕ, map, take}
use Rattle.ent_semantics.specs.Pool.{Posted}
use Rattle.ent_trace.proofs.note_taker.posters.Given as goal

-- those whose statements were gone through are listed
abbrev pub invariant-loop-posted : goal.invariant-loop-posted
invariant-loop-posted l = l.members ≡ map (λ (query : Posted). query.tx) (take l.posted-index l.asked)
