-- Elements by their numbers, counted from 1.
use Rattle.std.proofs.Common.{◌≡◌, ◌∙◌, ℕ, zero, suc, ◌≤◌, List, [], ◌∷◌, length, map, Option, Some, None, refl, ap}
use Rattle.std.proofs.Common.{subst, arith}
use Rattle.std.specs.Prelude.{slice_get}
use Rattle.std.specs.List.{AllByRecursion}
use Rattle.std.specs.Option.{option_map}
use Rattle.ent_lists.specs.Elements.{In, got_in}
use Rattle.ent_semantics.specs.Serial.{numbered}

-- a number that an element has is no greater than the number of elements
pub numbered_low : {X : Type 0} (xs : List X) (n : ℕ) (x : X) → numbered xs n ≡ Some x → n ≤ length xs
numbered_low xs zero x e = omega arith
numbered_low [] (suc k) x e = cc (e)
numbered_low (y ∷ ys) (suc zero) x e = omega arith
numbered_low (y ∷ ys) (suc (suc k)) x e =
    let low = numbered_low ys (suc k) x e in
    omega (arith, low)

pub none_numbered : {X : Type 0} (xs : List X) → None ≡ numbered xs 1 → xs ≡ []
none_numbered [] e = refl
none_numbered (x ∷ xs) e = cc

pub some_numbered : {X : Type 0} (xs : List X) (x : X) → Some x ≡ numbered xs 1 → xs ≡ [] → ⊥
some_numbered [] x e is = cc
some_numbered (y ∷ ys) x e is = cc

pub numbered_in : {X : Type 0} (xs : List X) (n : ℕ) (x : X) → numbered xs n ≡ Some x → In x xs
numbered_in xs zero x e = cc (e)
numbered_in xs (suc n) x e = got_in xs n x e

pub of_numbered : {A : Type 0} (P : A → Type 0) (xs : List A) (n : ℕ) (a : A) → AllByRecursion P xs
    → numbered xs n ≡ Some a → P a
of_numbered P xs zero a all e = cc
of_numbered P [] (suc n) a all e = cc
of_numbered P (x ∷ xs) (suc zero) a all e = let same : x ≡ a = cc in subst P same all.0
of_numbered P (x ∷ xs) (suc (suc n)) a all e = of_numbered P xs (suc n) a all.1 e

-- what is found by its number is found so among the images, too
module _ {X Y : Type 0} (f : X → Y) where
  got_map : (xs : List X) (i : ℕ) → option_map f (slice_get xs i) ≡ slice_get (map f xs) i
  got_map [] i = refl
  got_map (x ∷ xs) zero = refl
  got_map (x ∷ xs) (suc i) = got_map xs i

  pub numbered_map : (xs : List X) (n : ℕ) (found : Option X) → found ≡ numbered xs n
      → option_map f found ≡ numbered (map f xs) n
  numbered_map xs zero found is = ap (option_map f) is
  numbered_map xs (suc i) found is = ap (option_map f) is ∙ got_map xs i
