-- What C's calls do with rows of tables.
use Rattle.std.specs.Prelude.{◌≡◌, ◌⊎◌, ℕ, ℤ, pos, true, List, Option, Some, None}
use Rattle.ent_prepare.specs.Givable.{IsGivable}
use Rattle.ent_prepare.specs.declared.row.GivenRow.{GivenRow}
use Rattle.ent_room_calls.specs.Rows.{AddsTo, HasNoPlace, with_row}
use Rattle.ent_room_calls.specs.Values.{IsNotAdded}
use Rattle.ent_room_calls.specs.declared.fault.RoomFault.{RoomFault}
use Rattle.ent_value.specs.Name.{is_word}
use Rattle.ent_value.specs.declared.value.Value.{Value}
use Rattle.ent_c.specs.Rooms.{TellsDone, TellsNumber, given_in}

-- what a handle of rows holds: nothing where it is null
abbrev pub HeldRows : Type 0
HeldRows = Option (List GivenRow)

-- a row of the table of this name is begun behind those behind a handle; or it is told why not, since that is no name,
-- and they are as they were
abbrev pub BeginsRow : List ℕ → HeldRows → HeldRows → ℕ → ℤ → Type 0
BeginsRow table old new refusal status =
    ((new ≡ Some (with_row table (given_in old))) × (is_word table ≡ true) × TellsDone refusal status)
    ⊎ ((fault : RoomFault) × IsNotAdded table fault × (new ≡ old) × TellsNumber fault refusal status)

-- a value stands behind those of the row that was begun last; or it is told why not, for a fault of the value or since
-- that row is full, and the rows are as they were
abbrev pub AddsToLast : Value → (RoomFault → Type 0) → List GivenRow → HeldRows → ℕ → ℤ → Type 0
AddsToLast value IsNoValue old new refusal status =
    ((rows : List GivenRow) × AddsTo value old rows × IsGivable value × (new ≡ Some rows) × TellsDone refusal status)
    ⊎ ((fault : RoomFault) × (IsNoValue fault ⊎ HasNoPlace old fault) × (new ≡ Some old)
    × TellsNumber fault refusal status)

-- the same; where no row was begun, the call is misused
abbrev pub AddsToRow : Value → (RoomFault → Type 0) → HeldRows → HeldRows → ℕ → ℕ → ℤ → Type 0
AddsToRow value IsNoValue None new before refusal status = (new ≡ None) × (refusal ≡ before) × (status ≡ pos 2)
AddsToRow value IsNoValue (Some old) new before refusal status = AddsToLast value IsNoValue old new refusal status
