-- Rows of tables that are collected value by value.
use Rattle.std.specs.Prelude.{◌≡◌, ◌⊎◌, ◌++◌, ◌∷◌, ℕ, List, [], length}
use Rattle.ent_value.specs.declared.value.Value.{Value as OneValue}
use Rattle.ent_prepare.specs.declared.row.GivenRow.{GivenRow}
use Rattle.ent_tree.specs.declared.limits.TheConstants.{MOST_PARTS}
use Rattle.ent_room_calls.specs.declared.fault.RoomFault.{RoomFault}
use Rattle.ent_room_calls.specs.declared.fault.RoomFault.TheVariants.{Memory, TooManyValues}

-- a row of this table, without a value yet, behind those that there are
abbrev pub with_row : List ℕ → List GivenRow → List GivenRow
with_row table rows = rows ++ record { table = table; values = [] } ∷ []

-- the value stands behind those of the last row
pub record AddsTo (value : OneValue) (old new : List GivenRow) : Type 0 where
  pub before : List GivenRow
  pub row : GivenRow
  pub was : old ≡ before ++ row ∷ []
  pub is : new ≡ before ++ (record row { values = row.values ++ value ∷ [] }) ∷ []

-- the last row has as many values as a row has at most
pub record HasFullRow (rows : List GivenRow) : Type 0 where
  pub before : List GivenRow
  pub row : GivenRow
  pub is : rows ≡ before ++ row ∷ []
  pub full : length row.values ≡ MOST_PARTS

-- the last row is full, or memory ran out
abbrev pub HasNoPlace : List GivenRow → RoomFault → Type 0
HasNoPlace rows fault = (fault ≡ Memory) ⊎ ((fault ≡ TooManyValues) × HasFullRow rows)
