-- The least list of values that passes a test, and what guides a search for it.
use Rattle.std.specs.Prelude.{◌≡◌, ◌≢◌, ◌<◌, ◌^◌, ℕ, ◌+◌, Bool, true, false, List, ◌∷◌, ◌++◌, length}
use Rattle.std.specs.declared.cmp.Ordering.TheVariants.{Less}
use Rattle.ent_value.specs.Value.{row_cmp}
use Rattle.ent_value.specs.declared.value.Value.{Value}
use Rattle.ent_join.specs.Cursor.{IsAmong, IsAscending}
use Rattle.ent_join.specs.Reason.{Refutes}

-- of the lists of a number of values that pass, one is the least
pub record IsLeast (count : ℕ) (passes : List Value → Bool) (values : List Value) : Type 0 where
  pub width : length values ≡ count
  pub passing : passes values ≡ true
  pub least : (others : List Value) → length others ≡ count → passes others ≡ true → row_cmp others values ≢ Less

-- no list of a number of values passes
abbrev pub NonePasses : ℕ → (List Value → Bool) → Type 0
NonePasses count passes = (values : List Value) → length values ≡ count → passes values ≡ true → ⊥

-- What comes next behind a beginning ascends and holds each value with which a list that passes goes on. What passes
-- begins with nothing that doesn't.
pub record IsGuide (count : ℕ) (candidates : List Value → List Value) (passes : List Value → Bool) : Type 0 where
  pub ascending : (beginning : List Value) → IsAscending (candidates beginning)
  pub complete : (beginning : List Value) (value : Value) (rest : List Value)
      → length beginning + (1 + length rest) ≡ count
      → passes (beginning ++ value ∷ rest) ≡ true
      → IsAmong value (candidates beginning)
  pub kept : (beginning rest : List Value) → passes (beginning ++ rest) ≡ true → passes beginning ≡ true

-- with each value that comes next a list that passes goes on
abbrev pub NoDeadEnds : ℕ → (List Value → List Value) → (List Value → Bool) → Type 0
NoDeadEnds count candidates passes =
    (beginning : List Value) (value : Value) → IsAmong value (candidates beginning)
    → (rest : List Value) × (length beginning + (1 + length rest) ≡ count)
    × (passes (beginning ++ value ∷ rest) ≡ true)

-- A beginning goes on as the least list that passes, or stays as it is: then marked places of it are why none does.
abbrev pub IsSearched : (List Value → Bool) → ℕ → List Value → List Value → List Bool → Bool → Type 0
IsSearched passes left old new marks true =
    (rest : List Value) × (new ≡ old ++ rest) × IsLeast left (λ values. passes (old ++ values)) rest
IsSearched passes left old new marks false = (new ≡ old) × Refutes (length old + left) passes old marks

-- one tick for each value where there is a list that passes, and else none
abbrev pub AreTicks : ℕ → ℕ → ℕ → Bool → Type 0
AreTicks left old new true = old + left < 2 ^ 64 → new ≡ old + left
AreTicks left old new false = new ≡ old
