use Rattle.std.proofs.Common.{List}
use Rattle.ent_history.specs.Placed.{Placed}
use Rattle.ent_check.specs.Seats.{AreSeatsOf}
use Rattle.ent_check.proofs.Joints.{members_in}
use Rattle.ent_check.proofs.LeftOut.{StandBehind}
use Rattle.ent_check.proofs.joint.all_stand.Given as goal

-- the statements so far stand
abbrev pub invariant-loop-index : goal.invariant-loop-index
invariant-loop-index l =
    (members : List Placed) → AreSeatsOf members l.seats → StandBehind (members_in members) l.tx l.statements l.index
