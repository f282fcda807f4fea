use Rattle.ent_check.proofs.Taken.{Seated}
use Rattle.ent_check.proofs.seating.seats_of.Given as goal

-- the members of the joint answers so far have their seats
abbrev pub invariant-loop-index : goal.invariant-loop-index
invariant-loop-index l = Seated l.joints l.index l.seats
