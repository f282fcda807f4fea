-- Indexes: rows of values for some classes of variables, in order.
use Rattle.std.specs.Prelude.{◌≡◌, ◌==◌, ℕ, suc, Bool, List, [], ◌∷◌, length, Option, Some, None, slice_get}
use Rattle.std.specs.Prelude.{if◌then◌else◌}
use Rattle.std.specs.List.{AllByRecursion, filter, list_any}
use Rattle.std.specs.List.Sorted.{IsStrictlySortedBy}
use Rattle.std.specs.Option.{option_map}
use Rattle.std.specs.Ordering.{is_eq, nat_cmp, ordering_then}
use Rattle.std.specs.declared.cmp.Ordering.{Ordering}
use Rattle.std.specs.declared.cmp.Ordering.TheVariants.{Equal}
use Rattle.ent_value.specs.Value.{value_cmp, row_cmp}
use Rattle.ent_value.specs.declared.value.Value.{Value}
use Rattle.ent_join.specs.Cursor.{column_values}

-- classes by number, and rows with a value for each of them
pub record Indexed : Type 0 where
  pub classes : List ℕ
  pub rows : List (List Value)

-- classes ascend, and so do rows
pub record IsIndexed (index : Indexed) : Type 0 where
  pub classes : IsStrictlySortedBy nat_cmp index.classes
  pub rows : IsStrictlySortedBy row_cmp index.rows
  pub widths : AllByRecursion (λ row. length row ≡ length index.classes) index.rows

-- how a value compares with one that is known; where none is known, nothing more is compared
abbrev pub known_cmp : Option Value → Value → Ordering → Ordering
known_cmp None value others = Equal
known_cmp (Some known) value others = ordering_then (value_cmp value known) others

-- how a row compares with the values that its classes have in a beginning
abbrev pub begun_cmp : List Value → List ℕ → List Value → Ordering
begun_cmp beginning [] row = Equal
begun_cmp beginning (class ∷ classes) [] = Equal
begun_cmp beginning (class ∷ classes) (value ∷ row) =
    known_cmp (slice_get beginning class) value (begun_cmp beginning classes row)

abbrev pub begins_so : List Value → List ℕ → List Value → Bool
begins_so beginning classes row = is_eq (begun_cmp beginning classes row)

-- the rows with the values of a beginning
abbrev pub rows_after : List Value → Indexed → List (List Value)
rows_after beginning index = filter (begins_so beginning index.classes) index.rows

-- there is such a row
abbrev pub goes_on : List Value → Indexed → Bool
goes_on beginning index = list_any (begins_so beginning index.classes) index.rows

-- the column of a class
abbrev pub column_of : ℕ → List ℕ → Option ℕ
column_of class [] = None
column_of class (other ∷ classes) = if other == class then Some 0 else option_map suc (column_of class classes)

-- the values that may come next, where the index has the next class; else what others give
abbrev pub candidates_or : List Value → Indexed → List Value → Option ℕ → List Value
candidates_or beginning index others (Some column) = column_values column (rows_after beginning index)
candidates_or beginning index others None = others

-- the values that may come next, of the first index that has the next class
abbrev pub candidates_in : List Indexed → List Value → List Value
candidates_in [] beginning = []
candidates_in (index ∷ indexes) beginning =
    candidates_or beginning index (candidates_in indexes beginning) (column_of (length beginning) index.classes)
