-- How far a search has come among the values that may come next.
use Rattle.std.specs.Prelude.{◌≡◌, ℕ, ◌+◌, Bool, true, List, ◌∷◌, ◌++◌, length}
use Rattle.ent_value.specs.declared.value.Value.{Value}
use Rattle.ent_join.specs.Cursor.{IsAmong, IsAscending}
use Rattle.ent_join.specs.Reason.{Agrees}
use Rattle.ent_join.specs.Search.{NoDeadEnds}

-- a list that has a beginning's values at marked places and passes goes on with a value that is left
abbrev pub AreLeft : (List Value → Bool) → ℕ → List Value → List Bool → List Value → Type 0
AreLeft passes count old marks remaining =
    (front : List Value) (value : Value) (rest : List Value) → length front ≡ length old
    → length front + (1 + length rest) ≡ count → Agrees marks old front
    → passes (front ++ value ∷ rest) ≡ true → IsAmong value remaining

-- each value with which a list that passes goes on is left, and none was given where each leads to such a list
pub record IsGoing (passes : List Value → Bool) (candidates : List Value → List Value) (count : ℕ)
    (old now : List Value) (marks : List Bool) (remaining : List Value) (old_ticks ticks : ℕ) : Type 0 where
  pub unchanged : now ≡ old
  pub width : length marks ≡ count
  pub ascending : IsAscending remaining
  pub complete : AreLeft passes count old marks remaining
  pub first : NoDeadEnds count candidates passes → (remaining ≡ candidates old) × (ticks ≡ old_ticks)
