use Rattle.std.proofs.Common.{take}
use Rattle.ent_lock.specs.Use.{IsLeastIfAny}
use Rattle.ent_protocol.specs.State.{State}
use Rattle.ent_waits.specs.Waits.{state_with}
use Rattle.ent_waits.proofs.WouldMove.{HasMoverIn}
use Rattle.ent_waits.proofs.movers.least_mover.Given as goal

-- the least of the members so far
abbrev pub invariant-loop-place : goal.invariant-loop-place
invariant-loop-place l =
    (s : State) → IsLeastIfAny (HasMoverIn (state_with l.run l.submitted l.lent s) (take l.place l.run.active)) l.least
