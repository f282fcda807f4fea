-- Numbers that rise.
use Rattle.std.proofs.Common.{◌≡◌, ℕ, ◌+◌, ◌<◌, ◌≤◌, List, [], ◌∷◌, ◌++◌, length, get_or, inl, inr, sym, subst, eqb}
use Rattle.std.proofs.Common.{arith, length-append}
use Rattle.std.specs.List.{Contains, dedup}
use Rattle.std.specs.List.Retain.{DiffersFromLast, IsFiltered}
use Rattle.std.specs.List.Sorted.{IsPermutation, IsSorted, IsStrictlyIncreasing}
use Rattle.std.specs.Ordering.{nat_cmp}
use Rattle.std.specs.Prelude.{◌↔◌, ◌⊎◌}
use Rattle.std.proofs.lemmas.Bool.{cases_lt}
use Rattle.std.proofs.lemmas.List.{get_or_append_left, get_or_push}
use Rattle.std.proofs.lemmas.List.Filters.{dedup_is}
use Rattle.std.proofs.lemmas.List.Kept.{Contains-dedup_nat, Contains-from_dedup}
use Rattle.std.proofs.lemmas.List.Sorted.{Contains-permutation, IsPermutation-sym}
use Rattle.std.proofs.lemmas.Map.Keys.{IsStrictlyIncreasing-dedup}

length_more : (xs : List ℕ) (n : ℕ) → length (xs ++ n ∷ []) ≡ length xs + 1
length_more xs n = length-append xs (n ∷ [])

-- each number of a list with one more is one of the list, or the last
of_more : (P : ℕ → Type 0) (xs : List ℕ) (n k : ℕ) → (k < length xs → P (get_or xs k 0)) → P n
    → k < length (xs ++ n ∷ []) → P (get_or (xs ++ n ∷ []) k 0)
of_more P xs n k old last h = by_place (cases_lt k (length xs))
  where
    by_place : (k < length xs) ⊎ (length xs ≤ k) → P (get_or (xs ++ n ∷ []) k 0)
    by_place (inl less) = subst P (sym (get_or_append_left xs (n ∷ []) 0 k less)) (old less)
    by_place (inr more) =
        let same : length xs ≡ k = omega (arith, more, h, length_more xs n) in
        subst P (sym (get_or_push xs n 0 k same)) last

pub up_to_more : (xs : List ℕ) (n k : ℕ) → ((j : ℕ) → j < length xs → get_or xs j 0 ≤ n)
    → k < length (xs ++ n ∷ []) → get_or (xs ++ n ∷ []) k 0 ≤ n
up_to_more xs n k old h = of_more (λ m. m ≤ n) xs n k (old k) (omega arith) h

pub rising_more : (xs : List ℕ) (n : ℕ) → IsStrictlyIncreasing xs → ((k : ℕ) → k < length xs → get_or xs k 0 < n)
    → IsStrictlyIncreasing (xs ++ n ∷ [])
rising_more xs n rising below k h =
    let less : k < length xs = omega (arith, h, length_more xs n) in
    let before = get_or_append_left xs (n ∷ []) 0 k less in
    of_more (λ m. get_or (xs ++ n ∷ []) k 0 < m) xs n (k + 1)
    (λ next. omega (arith, before, rising k next)) (omega (arith, before, below k less)) h

pub rising_once : (sorted ys : List ℕ) → IsSorted nat_cmp sorted → IsFiltered (DiffersFromLast eqb) [] sorted ys
    → IsStrictlyIncreasing ys
rising_once sorted ys order kept =
    subst IsStrictlyIncreasing (sym (dedup_is eqb sorted ys kept)) (IsStrictlyIncreasing-dedup sorted order)

pub same_members : (xs sorted ys : List ℕ) → IsPermutation xs sorted → IsFiltered (DiffersFromLast eqb) [] sorted ys
    → (tx : ℕ) → Contains ys tx ↔ Contains xs tx
same_members xs sorted ys order kept tx =
    let is : ys ≡ dedup eqb sorted = dedup_is eqb sorted ys kept in (
      (λ h. Contains-permutation sorted xs tx (IsPermutation-sym xs sorted order)
          (Contains-from_dedup eqb sorted tx (subst (λ (l : List ℕ). Contains l tx) is h))),
      (λ h. subst (λ (l : List ℕ). Contains l tx) (sym is)
          (Contains-dedup_nat sorted tx (Contains-permutation xs sorted tx order h))),
    )

pub same_as_named : (found given named : List ℕ) → given ≡ named → ((tx : ℕ) → Contains found tx ↔ Contains given tx)
    → (tx : ℕ) → Contains found tx ↔ Contains named tx
same_as_named found given named is same =
    subst (λ (list : List ℕ). (tx : ℕ) → Contains found tx ↔ Contains list tx) is same
