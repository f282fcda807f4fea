-- Values in ascending order, and how a walk over them goes on.
use Rattle.std.specs.Prelude.{◌≡◌, ◌≢◌, ◌⊎◌, ℕ, List, [], ◌∷◌, ◌++◌, map, slice_index_or}
use Rattle.std.specs.List.{AllByRecursion}
use Rattle.std.specs.declared.cmp.Ordering.TheVariants.{Greater}
use Rattle.ent_value.specs.Value.{value_cmp}
use Rattle.ent_value.specs.declared.value.Value.{Value}
use Rattle.ent_semantics.specs.Term.{no_value}

-- the values of rows in a column
abbrev pub column_values : ℕ → List (List Value) → List Value
column_values column rows = map (λ row. slice_index_or row column no_value) rows

-- a value is one of a list
abbrev pub IsAmong : Value → List Value → Type 0
IsAmong value [] = ⊥
IsAmong value (other ∷ others) = (other ≡ value) ⊎ IsAmong value others

-- no value is less than one before it
abbrev pub IsAscending : List Value → Type 0
IsAscending [] = Unit {0}
IsAscending (value ∷ values) =
    AllByRecursion (λ other. value_cmp value other ≢ Greater) values × IsAscending values

-- the first value of some is given, and those that are equal to it and follow it are passed over
pub record IsNext (before after : List Value) (value : Value) : Type 0 where
  pub same : List Value
  pub all_same : AllByRecursion (λ other. other ≡ value) same
  pub are : before ≡ value ∷ (same ++ after)

-- the rows that are left behind those whose value in a column is this one
pub record PassesOver (column : ℕ) (value : Value) (before after : List (List Value)) : Type 0 where
  pub passed : List (List Value)
  pub all_same : AllByRecursion (λ row. slice_index_or row column no_value ≡ value) passed
  pub are : before ≡ passed ++ after

-- the first of some rows, where there is one, has another value in a column
abbrev pub BeginsOtherwise : ℕ → Value → List (List Value) → Type 0
BeginsOtherwise column value [] = Unit {0}
BeginsOtherwise column value (row ∷ rows) = slice_index_or row column no_value ≢ value
