-- What C's calls do with values for host variables.
use Rattle.std.specs.Prelude.{◌≡◌, ◌⊎◌, ℕ, ℤ, List, Option, Some}
use Rattle.ent_value.specs.declared.value.Value.{Value}
use Rattle.ent_bound.specs.Bindable.{IsBindable}
use Rattle.ent_bound.specs.declared.variable.BoundVariable.{BoundVariable}
use Rattle.ent_room_calls.specs.Values.{IsNotAdded, with_value}
use Rattle.ent_room_calls.specs.declared.fault.RoomFault.{RoomFault}
use Rattle.ent_c.specs.Rooms.{TellsDone, TellsNumber, bound_in}

-- what a handle of values holds: nothing where it is null
abbrev pub HeldValues : Type 0
HeldValues = Option (List BoundVariable)

-- a value is added to those behind a handle; or it is told why not, for a fault of the value or of its name, and they
-- are as they were
abbrev pub AddsValue : List ℕ → Value → (RoomFault → Type 0) → HeldValues → HeldValues → ℕ → ℤ → Type 0
AddsValue name value IsNoValue old new refusal status =
    (IsBindable value × (new ≡ Some (with_value name value (bound_in old))) × TellsDone refusal status)
    ⊎ ((fault : RoomFault) × (IsNoValue fault ⊎ IsNotAdded name fault) × (new ≡ old) × TellsNumber fault refusal status)
