use Rattle.std.proofs.Common.{length}
use Rattle.ent_history.specs.Heads.{fact_at, facts_at}
use Rattle.ent_history.proofs.Listing.{Left}
use Rattle.ent_history.proofs.fact.facts.Given as goal

-- what was read and what is left are all
abbrev pub invariant-loop-alloc : goal.invariant-loop-alloc
invariant-loop-alloc l = Left 32 fact_at l.facts l.rest (facts_at l.bytes)

abbrev pub decreases-loop-alloc : goal.decreases-loop-alloc
decreases-loop-alloc l = length l.rest
