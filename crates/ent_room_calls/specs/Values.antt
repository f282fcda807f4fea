-- Values for host variables and for rows, by their bytes.
use Rattle.std.specs.Prelude.{◌≡◌, ◌⊎◌, ◌++◌, ◌∷◌, ℕ, ℤ, false, List, []}
use Rattle.ent_value.specs.Name.{is_word}
use Rattle.ent_value.specs.declared.value.Value.{Value as OneValue}
use Rattle.ent_bound.specs.Bindable.{IsTextFault, least_number}
use Rattle.ent_bound.specs.declared.fault.ValueFault.TheVariants.{LeastNumber}
use Rattle.ent_bound.specs.declared.variable.BoundVariable.{BoundVariable}
use Rattle.ent_room_calls.specs.declared.fault.RoomFault.{RoomFault}
use Rattle.ent_room_calls.specs.declared.fault.RoomFault.TheVariants.{Memory, Input, Faulty, Full, Value, NoName}
use Rattle.ent_room_calls.specs.declared.fault.RoomFault.TheVariants.{Used, Absent, Busy, TooManyRows, NoNumber}
use Rattle.ent_room_calls.specs.declared.fault.RoomFault.TheVariants.{NotARow, TooManyValues}

-- one more behind those that there are
abbrev pub with_value : List ℕ → OneValue → List BoundVariable → List BoundVariable
with_value name value list = list ++ record { name = name; value = value } ∷ []

-- the name is none, or memory ran out
abbrev pub IsNotAdded : List ℕ → RoomFault → Type 0
IsNotAdded name fault = (fault ≡ Memory) ⊎ ((fault ≡ NoName) × (is_word name ≡ false))

-- the number is the least
abbrev pub IsNoNumber : ℤ → RoomFault → Type 0
IsNoNumber number fault = (fault ≡ Value LeastNumber) × (number ≡ least_number)

-- the text has this fault, or memory ran out
abbrev pub IsNoText : List ℕ → RoomFault → Type 0
IsNoText text (Value fault) = IsTextFault text fault
IsNoText text Memory = Unit {0}
IsNoText text (Input fault) = ⊥
IsNoText text (Faulty fault) = ⊥
IsNoText text Full = ⊥
IsNoText text NoName = ⊥
IsNoText text Used = ⊥
IsNoText text Absent = ⊥
IsNoText text Busy = ⊥
IsNoText text TooManyRows = ⊥
IsNoText text NoNumber = ⊥
IsNoText text (NotARow fault) = ⊥
IsNoText text TooManyValues = ⊥
