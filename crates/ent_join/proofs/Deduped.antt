-- What a sort and a `dedup` leave, and tests that hold of all elements or of one.
use Rattle.std.proofs.Common.{◌≡◌, ℕ, Bool, true, false, cond, List, [], ◌∷◌, refl, sym, ap, ◌∙◌}
use Rattle.std.specs.Prelude.{◌==◌, ◌||◌, not}
use Rattle.std.specs.List.{AllByRecursion, list_any, dedup, dedup_from}
use Rattle.std.specs.List.Sorted.{IsPermutation}
use Rattle.std.proofs.lemmas.Bool.{eq-eqb}
use Rattle.std.proofs.lemmas.List.Sorted.{list_any-IsPermutation}

or_twice : (a b : Bool) → (a || b) ≡ (a || (a || b))
or_twice true b = refl
or_twice false b = refl

module _ {X : Type 0} (same : X → X → Bool) (exact : (x y : X) → same x y ≡ true → x ≡ y) (test : X → Bool) where
  any_dedup_from : (x : X) (xs : List X) → list_any test (dedup_from same x xs) ≡ (test x || list_any test xs)
  any_dedup_from x [] = refl
  any_dedup_from x (y ∷ ys) = by (same y x) refl (any_dedup_from x ys) (any_dedup_from y ys)
    where
      by : (b : Bool) → same y x ≡ b
          → list_any test (dedup_from same x ys) ≡ (test x || list_any test ys)
          → list_any test (dedup_from same y ys) ≡ (test y || list_any test ys)
          → list_any test (cond b (dedup_from same x ys) (x ∷ dedup_from same y ys))
          ≡ (test x || (test y || list_any test ys))
      by true e first second =
          first ∙ or_twice (test x) (list_any test ys)
          ∙ ap (λ z. test x || (test z || list_any test ys)) (sym (exact y x e))
      by false e first second = ap (λ b. test x || b) second

  any_dedup : (xs : List X) → list_any test (dedup same xs) ≡ list_any test xs
  any_dedup [] = refl
  any_dedup (x ∷ xs) = any_dedup_from x xs

  -- an element of what is left passes where one of the list does
  pub any_left : (xs sorted left : List X) → IsPermutation xs sorted → left ≡ dedup same sorted
      → list_any test left ≡ list_any test xs
  any_left xs sorted left moved is =
      ap (list_any test) is ∙ any_dedup sorted ∙ sym (list_any-IsPermutation test xs sorted moved)

-- ---- all and one

none_fails : {X : Type 0} (test : X → Bool) (xs : List X) → AllByRecursion (λ x. test x ≡ true) xs
    → list_any (λ x. not (test x)) xs ≡ false
none_fails test [] h = refl
none_fails test (x ∷ xs) h = ap (λ b. not b || list_any (λ x. not (test x)) xs) h.0 ∙ none_fails test xs h.1

all_pass : {X : Type 0} (test : X → Bool) (xs : List X) → list_any (λ x. not (test x)) xs ≡ false
    → AllByRecursion (λ x. test x ≡ true) xs
all_pass test [] h = tt
all_pass test (x ∷ xs) h = by (test x) refl (λ k. all_pass test xs k) h
  where
    by : (b : Bool) → test x ≡ b
        → (list_any (λ x. not (test x)) xs ≡ false → AllByRecursion (λ x. test x ≡ true) xs)
        → (not b || list_any (λ x. not (test x)) xs) ≡ false
        → (test x ≡ true) × AllByRecursion (λ x. test x ≡ true) xs
    by true e more h = (e, more h)
    by false e more h = cc

-- lists of which the same is true have the same elements that pass
pub all_alike : {X : Type 0} (xs ys : List X) → ((test : X → Bool) → list_any test xs ≡ list_any test ys)
    → (test : X → Bool) → AllByRecursion (λ x. test x ≡ true) ys → AllByRecursion (λ x. test x ≡ true) xs
all_alike xs ys alike test all =
    all_pass test xs (alike (λ x. not (test x)) ∙ none_fails test ys all)

-- what is so of each number of a list is so of all
pub all_members : (P : ℕ → Type 0) (xs : List ℕ) → ((n : ℕ) → list_any (λ m. m == n) xs ≡ true → P n)
    → AllByRecursion P xs
all_members P [] h = tt
all_members P (x ∷ xs) h = (
  h x (ap (λ b. b || list_any (λ m. m == x) xs) (eq-eqb x x refl)),
  all_members P xs (λ n e. h n (or_true (x == n) (list_any (λ m. m == n) xs) e)),
)
  where
    or_true : (a b : Bool) → b ≡ true → (a || b) ≡ true
    or_true true b e = refl
    or_true false b e = e

pub all_map : {X : Type 0} (P Q : X → Type 0) → ((x : X) → P x → Q x) → (xs : List X) → AllByRecursion P xs
    → AllByRecursion Q xs
all_map P Q f [] h = tt
all_map P Q f (x ∷ xs) h = (f x h.0, all_map P Q f xs h.1)
