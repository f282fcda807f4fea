-- What a plan asks of the values of its classes: that indexes hold them, and that tests are true.
use Rattle.std.specs.Prelude.{◌≡◌, ◌<◌, ℕ, Bool, true, false, ◌&&◌, List, [], ◌∷◌}
use Rattle.std.specs.Prelude.{Option, Some, None, is_some, slice_get}
use Rattle.std.specs.List.{AllByRecursion, list_all, list_any}
use Rattle.ent_value.specs.Kinds.{same_kind}
use Rattle.ent_value.specs.Value.{kind_of}
use Rattle.ent_value.specs.declared.value.Kind.{Kind}
use Rattle.ent_value.specs.declared.value.Value.{Value}
use Rattle.ent_tree.specs.declared.operand.Test.{Test}
use Rattle.ent_ordinary.specs.Early.{may_compare}
use Rattle.ent_plan.specs.declared.slot.Slot.{Slot}
use Rattle.ent_plan.specs.declared.slot.Slot.TheVariants.{Fixed, Class}
use Rattle.ent_join.specs.declared.frame.Frame.{Frame}
use Rattle.ent_join.specs.Index.{Indexed, IsIndexed, column_of, goes_on, candidates_in}

-- the value of a slot, where a beginning has it
abbrev pub slot_there : List Value → Slot → Option Value
slot_there beginning (Fixed value) = Some value
slot_there beginning (Class number) = slice_get beginning number

abbrev pub may_hold : List Value → Test Slot → Bool
may_hold beginning test = may_compare test.comparison (slot_there beginning test.left) (slot_there beginning test.right)

-- a value is of a kind, where there is one
abbrev pub fits : Value → Option Kind → Bool
fits value None = false
fits value (Some kind) = same_kind (kind_of value) kind

-- values are of the first of some kinds
abbrev pub are_of_kinds : List Kind → List Value → Bool
are_of_kinds others [] = true
are_of_kinds [] (value ∷ values) = false
are_of_kinds (kind ∷ others) (value ∷ values) = same_kind (kind_of value) kind && are_of_kinds others values

-- values are of their kinds, and no index and no test refuses them
abbrev pub lets_through : Frame → List Value → Bool
lets_through frame values =
    are_of_kinds frame.kinds values
    && (list_all (goes_on values) frame.indexes && list_all (may_hold values) frame.tests)

abbrev pub candidates_of : Frame → List Value → List Value
candidates_of frame = candidates_in frame.indexes

-- a class is one of an index
abbrev pub has_class : ℕ → Indexed → Bool
has_class class index = is_some (column_of class index.classes)

-- indexes are in order, and each class is one of some index
pub record IsFrame (count : ℕ) (frame : Frame) : Type 0 where
  pub indexed : AllByRecursion IsIndexed frame.indexes
  pub held : (class : ℕ) → class < count → list_any (has_class class) frame.indexes ≡ true
