-- Values that are dead at their places: no list that passes has them there.
use Rattle.std.specs.Prelude.{◌≡◌, ◌<◌, ◌+◌, ◌⊎◌, ℕ, Bool, true, List, [], ◌∷◌, ◌++◌, length, slice_index_or}
use Rattle.ent_value.specs.declared.value.Value.{Value}
use Rattle.ent_match.specs.Links.{IsMarked}
use Rattle.ent_join.specs.Cursor.{IsAmong}

-- no list of a number of values that passes has a value at a place
abbrev pub IsDead : ℕ → (List Value → Bool) → ℕ → Value → Type 0
IsDead count passes place value =
    (front rest : List Value) → length front ≡ place → length front + (1 + length rest) ≡ count
    → passes (front ++ value ∷ rest) ≡ true → ⊥

-- the values that are kept of a place
abbrev pub dead_at : List (List Value) → ℕ → List Value
dead_at dead place = slice_index_or dead place []

-- the values that are kept of each place are dead there
abbrev pub AreDead : ℕ → (List Value → Bool) → List (List Value) → Type 0
AreDead count passes dead =
    (place : ℕ) (value : Value) → IsAmong value (dead_at dead place) → IsDead count passes place value

-- no place before one is marked
abbrev pub IsNoneBefore : List Bool → ℕ → Type 0
IsNoneBefore marks place = (before : ℕ) → before < place → IsMarked marks before → ⊥

-- each value that is kept was kept before, or is this one of this place, before which none is marked
abbrev pub HasLearnt : List (List Value) → List (List Value) → ℕ → Value → List Bool → Type 0
HasLearnt old new place value marks =
    (other : ℕ) (another : Value) → IsAmong another (dead_at new other)
    → IsAmong another (dead_at old other) ⊎ ((other ≡ place) × (another ≡ value) × IsNoneBefore marks place)
