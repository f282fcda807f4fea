-- What stands under each number is the first of a list that has it.
use Rattle.std.proofs.Common.{◌≡◌, ◌==◌, ◌&&◌, ◌||◌, ℕ, zero, suc, Bool, true, false, cond, List, [], ◌∷◌, ◌++◌, refl}
use Rattle.std.proofs.Common.{sym, ap, ◌∙◌, arith, Option, None, is_some, true≢false}
use Rattle.std.specs.Prelude.{slice_index_or}
use Rattle.std.specs.List.{filter, list_all, list_any}
use Rattle.ent_protocol.specs.State.{first_of}
use Rattle.ent_members.specs.ByNumber.{ShowsFirst, under}

module _ {A : Type 0} where
  first_some : (p : A → Bool) (xs : List A) → is_some (first_of (filter p xs)) ≡ list_any p xs
  first_some p [] = refl
  first_some p (x ∷ xs) = by (p x) (first_some p xs)
    where
      by : (b : Bool) → is_some (first_of (filter p xs)) ≡ list_any p xs
          → is_some (first_of (cond b (x ∷ filter p xs) (filter p xs))) ≡ (b || list_any p xs)
      by true rest = refl
      by false rest = rest

  one_more : (slots : List (Option A)) (place : ℕ)
      → slice_index_or (slots ++ None ∷ []) place None ≡ slice_index_or slots place None
  one_more [] zero = refl
  one_more [] (suc place) = refl
  one_more (slot ∷ slots) zero = refl
  one_more (slot ∷ slots) (suc place) = one_more slots place

  under_more : (slots : List (Option A)) (n : ℕ) → under (slots ++ None ∷ []) n ≡ under slots n
  under_more slots zero = refl
  under_more slots (suc place) = one_more slots place

module _ {A : Type 0} (number : A → ℕ) where
  -- something stands under the numbers that the list has
  pub shown_there : (xs : List A) (slots : List (Option A)) (n : ℕ) → ShowsFirst number xs slots
      → is_some (under slots n) ≡ list_any (λ x. number x == n) xs
  shown_there xs slots n shown = ap is_some (shown n) ∙ first_some (λ x. number x == n) xs

  pub shown_more : (xs : List A) (slots : List (Option A)) → ShowsFirst number xs slots
      → ShowsFirst number xs (slots ++ None ∷ [])
  shown_more xs slots shown n = under_more slots n ∙ shown n

-- of numbers that all pass none is one that fails
pub none_fails : (p : ℕ → Bool) (ns : List ℕ) (n : ℕ) → list_all p ns ≡ true → p n ≡ false
    → list_any (λ m. m == n) ns ≡ false
none_fails p [] n all fails = refl
none_fails p (m ∷ ns) n all fails = by (p m) (m == n) refl refl all (none_fails p ns n)
  where
    by : (passes same : Bool) → p m ≡ passes → (m == n) ≡ same → (passes && list_all p ns) ≡ true
        → (list_all p ns ≡ true → p n ≡ false → list_any (λ k. k == n) ns ≡ false)
        → (same || list_any (λ k. k == n) ns) ≡ false
    by false same is equal all rest = absurd (true≢false (sym all))
    by true true is equal all rest =
        let one : m ≡ n = grind (arith, equal) in absurd (true≢false (sym is ∙ ap p one ∙ fails))
    by true false is equal all rest = rest all fails
