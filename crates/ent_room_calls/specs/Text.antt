-- Tables, in the lines of a report.
use Rattle.std.specs.Prelude.{◌≡◌, ◌⊎◌, ℕ, List, None}
use Rattle.ent_driver.specs.Told.{lines_under}
use Rattle.ent_protocol.specs.State.{State}
use Rattle.ent_value.specs.Name.{IsWord}
use Rattle.ent_room_calls.specs.declared.fault.RoomFault.{RoomFault}
use Rattle.ent_room_calls.specs.declared.fault.RoomFault.TheVariants.{Memory, Absent}

-- no table has this name; or memory ran out
abbrev pub HasNoTable : State → List ℕ → RoomFault → Type 0
HasNoTable s name fault =
    (fault ≡ Memory) ⊎ ((fault ≡ Absent) × (IsWord name → lines_under s name ≡ None))
