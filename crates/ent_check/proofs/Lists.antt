-- Lists, on the way through them.
use Rattle.std.proofs.Common.{◌≡◌, ℕ, zero, suc, ◌<◌, ◌≤◌, ◌&&◌, ◌||◌, Bool, List, [], ◌∷◌, length, drop}
use Rattle.std.proofs.Common.{refl, sym, ap, ◌∙◌, arith}
use Rattle.std.proofs.Common.{slice_index_or}
use Rattle.std.proofs.Math.Seq.{drop-cons}
use Rattle.std.specs.List.{list_all, list_any}

module _ {X : Type 0} where
  -- from an index on: the element there, and those behind it
  pub here : (xs : List X) (i : ℕ) (x : X) → i < length xs → x ≡ slice_index_or xs i x
      → drop i xs ≡ x ∷ drop (suc i) xs
  here xs i x low at = drop-cons xs i x low ∙ ap (λ y. y ∷ drop (suc i) xs) (sym at)

  -- behind the last one there is none
  pub none_behind : (xs : List X) (i : ℕ) → length xs ≤ i → drop i xs ≡ []
  none_behind [] zero over = refl
  none_behind [] (suc i) over = refl
  none_behind (x ∷ xs) zero over = absurd (omega (arith, over))
  none_behind (x ∷ xs) (suc i) over = none_behind xs i (omega (arith, over))

-- ---- tests that agree

pub any_same : {X : Type 0} (p q : X → Bool) (xs : List X) → ((x : X) → p x ≡ q x) → list_any p xs ≡ list_any q xs
any_same p q [] same = refl
any_same p q (x ∷ xs) same = (λ i. same x i || any_same p q xs same i)

pub all_same : {X : Type 0} (p q : X → Bool) (xs : List X) → ((x : X) → p x ≡ q x) → list_all p xs ≡ list_all q xs
all_same p q [] same = refl
all_same p q (x ∷ xs) same = (λ i. same x i && all_same p q xs same i)
