-- Rooms over the texts of inputs, and over rows that are given as values.
use Rattle.std.specs.Prelude.{◌≡◌, ℕ, List, [], ◌∷◌, ◌++◌, None}
use Rattle.ent_admission.specs.Admission.{no_groups}
use Rattle.ent_admission.specs.Passed.{begun}
use Rattle.ent_input.specs.Reading.{IsInput, IsNoInput}
use Rattle.ent_prepare.specs.Given.{AreTooMany as AreTooManyRows, CanStand, IsFirstFault, with_rows}
use Rattle.ent_prepare.specs.declared.row.GivenRow.{GivenRow}
use Rattle.ent_tree.specs.declared.declaration.Opening.{Opening}
use Rattle.ent_tree.specs.declared.script.Input.{Input}
use Rattle.ent_tree.specs.declared.script.Script.{Script}
use Rattle.ent_value.specs.declared.refusal.Refusal.{Refusal}
use Rattle.ent_value.specs.declared.refusal.Refusal.TheVariants as refusals
use Rattle.ent_waiting.specs.WaitingList.{IsFull, WaitingList, nobody}
use Rattle.ent_waiting.specs.declared.waiting_list.Limits.{Limits}
use Rattle.ent_room.specs.Putting.{with_put}
use Rattle.ent_room.specs.Room.{Room}
use Rattle.ent_room.specs.declared.putting.Stay.TheVariants.{AsWritten}
use Rattle.ent_room.specs.declared.reading.NotOpened.{NotOpened}
use Rattle.ent_room.specs.declared.reading.NotOpened.TheVariants.{Faulty, Full, NotARow, TooManyRows}

-- the scripts come to wait, in order, each for as many batches as its WITHIN says
abbrev pub all_put : List Script → WaitingList → WaitingList
all_put [] list = list
all_put (script ∷ more) list = all_put more (with_put script AsWritten list)

-- nobody waits yet
abbrev pub empty_list : ℕ → Limits → WaitingList
empty_list next limits = nobody next limits.most_waiters limits.most_ended

-- the same input, with these rows behind its own
abbrev pub input_with : List GivenRow → Input → Input
input_with rows input = record input { opening = with_rows rows input.opening }

-- The epoch is over the opening of the input, and no script was submitted to it. The scripts of the input wait, in
-- order, and nobody else does. There is no group yet, and nobody is to be told.
pub record IsRoomOf (input : Input) (number next next_group : ℕ) (limits : Limits) (room : Room) : Type 0 where
  pub epoch : room.admission.epoch ≡ begun number input.opening
  pub list : room.admission.list ≡ all_put input.scripts (empty_list next limits)
  pub coming : room.admission.coming ≡ record { keys = [] }
  pub feed : room.admission.feed ≡ no_groups next_group
  pub news : room.admission.news ≡ []
  pub last : room.last ≡ None

-- before one of the scripts comes in, as many wait as there may be, or no ticket is left
pub record AreTooMany (scripts : List Script) (list : WaitingList) : Type 0 where
  pub taken : List Script
  pub script : Script
  pub behind : List Script
  pub all : taken ++ script ∷ behind ≡ scripts
  pub full : IsFull (all_put taken list)

-- the bytes are this input, and the room is that of the input with these rows behind its own
abbrev pub Opens : List ℕ → List GivenRow → ℕ → ℕ → ℕ → Limits → Room → Type 0
Opens bytes rows number next next_group limits room =
    (input : Input) × IsInput bytes input × CanStand input.opening rows
    × IsRoomOf (input_with rows input) number next next_group limits room

-- an opening has too many rows with these, else the first of them that has a fault has this one; or memory ran out
abbrev pub RefusesRows : Opening → List GivenRow → Refusal NotOpened → Type 0
RefusesRows opening rows refusals.Memory = Unit {0}
RefusesRows opening rows (refusals.Fault TooManyRows) = AreTooManyRows opening rows
RefusesRows opening rows (refusals.Fault (NotARow fault)) = IsFirstFault opening rows fault
RefusesRows opening rows (refusals.Fault (Faulty fault)) = ⊥
RefusesRows opening rows (refusals.Fault Full) = ⊥

-- the bytes are an input, and such rows can't stand behind its own
abbrev pub HasNoPlaceFor : List ℕ → List GivenRow → Refusal NotOpened → Type 0
HasNoPlaceFor bytes rows refusal =
    (input : Input) × IsInput bytes input × RefusesRows input.opening rows refusal

-- the first fault of the bytes; else too many rows, or the first fault of those that are given; else more scripts than
-- may wait; or memory ran out
abbrev pub IsNotOpened : List ℕ → List GivenRow → ℕ → Limits → Refusal NotOpened → Type 0
IsNotOpened bytes rows next limits refusals.Memory = Unit {0}
IsNotOpened bytes rows next limits (refusals.Fault (Faulty fault)) = IsNoInput bytes fault
IsNotOpened bytes rows next limits (refusals.Fault TooManyRows) =
    HasNoPlaceFor bytes rows (refusals.Fault TooManyRows)
IsNotOpened bytes rows next limits (refusals.Fault (NotARow fault)) =
    HasNoPlaceFor bytes rows (refusals.Fault (NotARow fault))
IsNotOpened bytes rows next limits (refusals.Fault Full) =
    (input : Input) × IsInput bytes input × CanStand input.opening rows
    × AreTooMany input.scripts (empty_list next limits)
