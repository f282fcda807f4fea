-- For which places of a list an answer stands: the places that it read, marked in a list.
use Rattle.std.specs.Prelude.{◌≡◌, ◌<◌, ◌+◌, ℕ, Bool, true, false, List, [], ◌∷◌, ◌++◌, length, slice_get}
use Rattle.ent_value.specs.declared.value.Value.{Value}
use Rattle.ent_match.specs.Links.{IsMarked}

-- the places that are marked in one list are marked in the other
abbrev pub AreMarkedIn : List Bool → List Bool → Type 0
AreMarkedIn some all = (place : ℕ) → IsMarked some place → IsMarked all place

-- a list has another one's values at the places of it that are marked
abbrev pub Agrees : List Bool → List Value → List Value → Type 0
Agrees marks values others =
    (place : ℕ) → place < length values → IsMarked marks place → slice_get others place ≡ slice_get values place

-- each list that is as long and has its values at the marked places is refused
abbrev pub IsRefusedFor : (List Value → Bool) → List Value → List Bool → Type 0
IsRefusedFor passes values marks =
    (others : List Value) → length others ≡ length values → Agrees marks values others → passes others ≡ false

-- behind each list that is as long and has its values at the marked places the same comes next
abbrev pub IsFollowedFor : (List Value → List Value) → List Value → List Bool → Type 0
IsFollowedFor candidates values marks =
    (others : List Value) → length others ≡ length values → Agrees marks values others
    → candidates others ≡ candidates values

-- what comes before the last value of a list passes
abbrev pub IsBegun : (List Value → Bool) → List Value → Type 0
IsBegun passes values = (front : List Value) (last : Value) → values ≡ front ++ last ∷ [] → passes front ≡ true

-- no list of a number of values passes that has a beginning's values at the marked places
abbrev pub Refutes : ℕ → (List Value → Bool) → List Value → List Bool → Type 0
Refutes count passes beginning marks =
    (front rest : List Value) → length front ≡ length beginning → length front + length rest ≡ count
    → Agrees marks beginning front → passes (front ++ rest) ≡ true → ⊥
