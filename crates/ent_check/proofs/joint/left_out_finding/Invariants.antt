use Rattle.std.proofs.Common.{List}
use Rattle.ent_history.specs.Placed.{Placed}
use Rattle.ent_check.specs.Seats.{AreSeatsOf}
use Rattle.ent_check.proofs.Joints.{members_in}
use Rattle.ent_check.proofs.LeftOut.{LeftBehind}
use Rattle.ent_check.proofs.joint.left_out_finding.Given as goal

-- of the transactions so far nothing is found
abbrev pub invariant-loop-index : goal.invariant-loop-index
invariant-loop-index l =
    (members : List Placed) → AreSeatsOf members l.seats
    → LeftBehind (members_in members) l.scripts l.transactions l.index
