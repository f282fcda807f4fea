use Rattle.std.proofs.Common.{length}
use Rattle.ent_history.proofs.Listing.{Left}
use Rattle.ent_report_reader.specs.Bindings.{all_bound_at, bound_at}
use Rattle.ent_report_reader.proofs.bindings.all_bound.Given as goal

-- what was read and what is left are all
abbrev pub invariant-loop-alloc : goal.invariant-loop-alloc
invariant-loop-alloc l = Left 32 bound_at l.all l.rest (all_bound_at l.bytes)

abbrev pub decreases-loop-alloc : goal.decreases-loop-alloc
decreases-loop-alloc l = length l.rest
