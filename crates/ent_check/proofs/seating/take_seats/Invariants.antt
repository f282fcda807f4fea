use Rattle.std.proofs.Common.{List}
use Rattle.ent_history.specs.Placed.{Placed}
use Rattle.ent_check.specs.Seats.{AreSeatsOf}
use Rattle.ent_check.proofs.Taken.{Taken}
use Rattle.ent_check.proofs.seating.take_seats.Given as goal

-- the members so far have their seats
abbrev pub invariant-loop-index : goal.invariant-loop-index
invariant-loop-index l =
    (before : List Placed) → AreSeatsOf before l.fn.seats → Taken l.joint l.members l.index before l.seats
