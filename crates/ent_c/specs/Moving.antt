-- Moves of a driver, and the replies to them, by their numbers.
use Rattle.std.specs.Prelude.{◌≡◌, ◌⊎◌, ◌==◌, ℕ, ℤ, pos, Option, Some, None, if◌then◌else◌}
use Rattle.ent_form.specs.declared.fault.FormFault.{FormFault}
use Rattle.ent_protocol.specs.Event.{Reply}
use Rattle.ent_protocol.specs.Event as replies
use Rattle.ent_driver.specs.Fault.{status as refusal_status}
use Rattle.ent_driver.specs.Moves.{IsNotMade, Moves}
use Rattle.ent_driver.specs.declared.fault.DriverFault.{DriverFault}
use Rattle.ent_driver.specs.declared.moves.Move.{Move}
use Rattle.ent_driver.specs.declared.moves.Move.TheVariants as moves
use Rattle.ent_c.specs.Drivers.{Held, behind}

-- 1 to 5, and no other; the second one is of a transaction
abbrev pub move_numbered : ℕ → ℕ → Option Move
move_numbered number tx =
    if number == 1 then Some moves.StartRun
    else if number == 2 then Some (moves.Begin tx)
    else if number == 3 then Some moves.Pick
    else if number == 4 then Some moves.BreakCycle
    else if number == 5 then Some moves.EndRun
    else None

-- 0 stands for replies that no move has
abbrev pub number_of : Reply FormFault → ℕ
number_of (replies.Started members) = 1
number_of (replies.Blocked holder) = 2
number_of (replies.HeldBack fault) = 3
number_of replies.Posted = 4
number_of replies.Prepared = 5
number_of (replies.Committed entries) = 6
number_of (replies.RolledBack group) = 7
number_of (replies.Stepped answer) = 8
number_of (replies.Failed failure group) = 9
number_of replies.Nothing = 10
number_of replies.Answered = 11
number_of replies.NoChoice = 12
number_of (replies.Broken cycle group) = 13
number_of replies.NoCycle = 14
number_of (replies.Ended members) = 15
number_of replies.Absent = 16
number_of replies.NotNow = 17
number_of (replies.Busy reason) = 18
number_of other = 0

-- no move has the number: nothing changes, and nothing is told
abbrev pub IsNoMove : Held → Held → ℕ → ℕ → ℤ → Type 0
IsNoMove old new before after status = (new ≡ old) × (after ≡ before) × (status ≡ pos 2)

-- the move is made, and the number of its reply is told; or memory ran out for it or nothing is open, and no reply is
abbrev pub MakesIn : Move → Held → Held → ℕ → ℕ → ℤ → Type 0
MakesIn asked old new before after status =
    ((reply : Reply FormFault) × Moves asked (behind old) reply (behind new) × (after ≡ number_of reply)
    × (status ≡ pos 0))
    ⊎ ((fault : DriverFault) × IsNotMade asked (behind old) (behind new) fault × (after ≡ before)
    × (status ≡ pos (refusal_status fault)))
