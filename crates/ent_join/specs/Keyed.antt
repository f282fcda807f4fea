-- Keys of rows: the values that the classes of a tuple's columns have in a row of a sub-select's result.
use Rattle.std.specs.Prelude.{◌≡◌, ◌==◌, ◌<◌, ℕ, Bool, true, false, ◌&&◌, List, [], ◌∷◌, length, map}
use Rattle.std.specs.Prelude.{Option, Some, None, unwrap_or, slice_index_or, if◌then◌else◌}
use Rattle.std.specs.List.{AllByRecursion, list_any}
use Rattle.std.specs.Ordering.{eq_by_cmp, is_eq, nat_cmp}
use Rattle.ent_lists.specs.Sets as set
use Rattle.ent_value.specs.Value.{value_cmp, row_cmp}
use Rattle.ent_value.specs.declared.value.Value.{Value}
use Rattle.ent_semantics.specs.Term.{no_value}
use Rattle.ent_semantics.specs.declared.entangled.Term.{Term}
use Rattle.ent_semantics.specs.declared.entangled.Term.TheVariants as terms
use Rattle.ent_plan.specs.Plan.{slot_value}
use Rattle.ent_plan.specs.declared.slot.Slot.{Slot}
use Rattle.ent_plan.specs.declared.slot.Slot.TheVariants.{Fixed, Class}
use Rattle.ent_join.specs.Index.{Indexed, IsIndexed, goes_on}

-- what a term of a statement is, whose written variables have these slots
abbrev pub term_slot : List Slot → Term Value → Slot
term_slot slots (terms.Known value) = Fixed value
term_slot slots (terms.Variable number) = slice_index_or slots number (Fixed no_value)

-- the classes of columns
abbrev pub class_numbers : List Slot → List ℕ
class_numbers [] = []
class_numbers (Fixed value ∷ columns) = class_numbers columns
class_numbers (Class number ∷ columns) = number ∷ class_numbers columns

abbrev pub is_class : ℕ → Slot → Bool
is_class number (Fixed value) = false
is_class number (Class other) = other == number

-- the value of a row in the first column of a class
abbrev pub value_under : ℕ → List Slot → List Value → Option Value
value_under number [] row = None
value_under number (slot ∷ columns) [] = None
value_under number (slot ∷ columns) (value ∷ row) =
    if is_class number slot then Some value else value_under number columns row

abbrev pub is_found : Option Value → Value → Bool
is_found None value = false
is_found (Some found) value = is_eq (value_cmp found value)

-- a value is what a column wants: a known one, or that of the first column of its class
abbrev pub is_wanted : List Slot → List Value → Slot → Value → Bool
is_wanted columns row (Fixed known) value = is_eq (value_cmp known value)
is_wanted columns row (Class number) value = is_found (value_under number columns row) value

-- each of some columns of a row has what it wants
abbrev pub agree : List Slot → List Value → List Slot → List Value → Bool
agree columns row [] [] = true
agree columns row [] (value ∷ values) = false
agree columns row (slot ∷ slots) [] = false
agree columns row (slot ∷ slots) (value ∷ values) =
    is_wanted columns row slot value && agree columns row slots values

-- the values of a row under some classes
abbrev pub key_under : List Slot → List Value → List ℕ → List Value
key_under columns row classes = map (λ number. unwrap_or (value_under number columns row) no_value) classes

-- the keys of the rows that agree with the columns
abbrev pub keys_under : List Slot → List ℕ → List (List Value) → List (List Value)
keys_under columns classes [] = []
keys_under columns classes (row ∷ rows) =
    if agree columns row columns row then key_under columns row classes ∷ keys_under columns classes rows
    else keys_under columns classes rows

-- the classes of columns, ascending
abbrev pub ascending_classes : List Slot → List ℕ
ascending_classes columns = set.ascending (set.from_list {R = nat_cmp} (class_numbers columns))

-- the index of the rows that agree with the columns, by their keys
abbrev pub index_under : List Slot → List (List Value) → Indexed
index_under columns rows =
    let classes = ascending_classes columns in
    record { classes = classes; rows = set.ascending (set.from_list {R = row_cmp} (keys_under columns classes rows)) }

-- An index holds just the values under which a tuple of these columns is one of some rows. It has their classes.
pub record IsIndexOf (columns : List Slot) (rows : List (List Value)) (index : Indexed) : Type 0 where
  pub indexed : IsIndexed index
  pub has : (values : List Value) → AllByRecursion (λ number. number < length values) (class_numbers columns)
      → goes_on values index ≡ list_any (eq_by_cmp row_cmp (map (slot_value values) columns)) rows
  pub classes : (test : ℕ → Bool) → list_any test index.classes ≡ list_any test (class_numbers columns)
