use Rattle.std.proofs.Common.{length}
use Rattle.ent_history.specs.JointLines.{place_at, places_at}
use Rattle.ent_history.proofs.Listing.{Left}
use Rattle.ent_history.proofs.place.places.Given as goal

-- what was read and what is left are all
abbrev pub invariant-loop-rest : goal.invariant-loop-rest
invariant-loop-rest l = Left 32 place_at l.places l.rest (places_at l.bytes)

abbrev pub decreases-loop-rest : goal.decreases-loop-rest
decreases-loop-rest l = length l.rest
