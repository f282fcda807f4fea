-- Rows that tests refuse which read nothing but the columns of a tuple.
use Rattle.std.specs.Prelude.{Bool, true, ◌&&◌, List, Option, Some}
use Rattle.std.specs.List.{filter, list_all, list_any}
use Rattle.ent_tree.specs.declared.operand.Test.{Test}
use Rattle.ent_value.specs.declared.value.Value.{Value}
use Rattle.ent_ordinary.specs.Early.{may_compare}
use Rattle.ent_plan.specs.declared.slot.Slot.{Slot}
use Rattle.ent_plan.specs.declared.slot.Slot.TheVariants.{Fixed, Class}
use Rattle.ent_join.specs.Keyed.{is_class, value_under}

-- the value of a slot, where a row of some columns has it
abbrev pub slot_in : List Slot → List Value → Slot → Option Value
slot_in columns row (Fixed value) = Some value
slot_in columns row (Class number) = value_under number columns row

-- a test holds of a row, or reads what isn't there
abbrev pub may_hold_in : List Slot → List Value → Test Slot → Bool
may_hold_in columns row test =
    may_compare test.comparison (slot_in columns row test.left) (slot_in columns row test.right)

-- a slot is a known value, or the class of a column
abbrev pub is_slot_of : List Slot → Slot → Bool
is_slot_of columns (Fixed value) = true
is_slot_of columns (Class number) = list_any (is_class number) columns

abbrev pub is_test_of : List Slot → Test Slot → Bool
is_test_of columns test = is_slot_of columns test.left && is_slot_of columns test.right

-- no test refuses a row that reads nothing but its columns
abbrev pub is_left : List (Test Slot) → List Slot → List Value → Bool
is_left tests columns row = list_all (may_hold_in columns row) (filter (is_test_of columns) tests)
