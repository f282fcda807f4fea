-- No place of a control character, no control character.
use Rattle.std.proofs.Common.{◌≡◌, ℕ, ◌+◌, Bool, true, false, cond, ◌||◌, List, [], ◌∷◌, Some, None, refl}
use Rattle.std.specs.List.{list_any, position_from}

pub nowhere : {A : Type 0} (p : A → Bool) (i : ℕ) (xs : List A) → position_from p i xs ≡ None → list_any p xs ≡ false
nowhere p i [] e = refl
nowhere {A} p i (x ∷ xs) e = by (p x) e (nowhere p (i + 1) xs)
  where
    by : (t : Bool) → cond t (Some i) (position_from p (i + 1) xs) ≡ None
        → (position_from p (i + 1) xs ≡ None → list_any p xs ≡ false) → (t || list_any p xs) ≡ false
    by true e rest = cc
    by false e rest = rest e
