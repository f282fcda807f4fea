-- Lists of counts that grow at their end.
use Rattle.std.proofs.Common.{◌≡◌, ◌⊎◌, ◌≤◌, ◌+◌, ◌-◌, ℕ, zero, suc, List, [], ◌∷◌, ◌++◌, length, map, refl}
use Rattle.std.proofs.Common.{ap, arith, inl, inr}
use Rattle.std.proofs.lemmas.List.{length-append}
use Rattle.ent_history.specs.Draft.{on_last}
use Rattle.ent_report_reader.specs.Located.{IsPart, number_at}

-- ---- lists of things that grow

module _ {X : Type 0} where
  pub length_changed : (change : X → X) (xs : List X) → length (on_last change xs) ≡ length xs
  length_changed change [] = refl
  length_changed change (x ∷ []) = refl
  length_changed change (x ∷ y ∷ more) = ap (λ n. suc n) (length_changed change (y ∷ more))

  module _ (count : X → ℕ) where
    pub counts_behind : (xs : List X) (x : X) → map count (xs ++ x ∷ []) ≡ map count xs ++ count x ∷ []
    counts_behind [] x = refl
    counts_behind (y ∷ ys) x = ap (λ more. count y ∷ more) (counts_behind ys x)

    pub counts_same : (change : X → X) (xs : List X) → ((x : X) → count (change x) ≡ count x)
        → map count (on_last change xs) ≡ map count xs
    counts_same change [] same = refl
    counts_same change (x ∷ []) same = ap (λ n. n ∷ []) (same x)
    counts_same change (x ∷ y ∷ more) same = ap (λ ns. count x ∷ ns) (counts_same change (y ∷ more) same)

    pub counts_grown : (change : X → X) (xs : List X) → ((x : X) → count (change x) ≡ suc (count x))
        → map count (on_last change xs) ≡ on_last (λ n. suc n) (map count xs)
    counts_grown change [] grown = refl
    counts_grown change (x ∷ []) grown = ap (λ n. n ∷ []) (grown x)
    counts_grown change (x ∷ y ∷ more) grown = ap (λ ns. count x ∷ ns) (counts_grown change (y ∷ more) grown)

pub one_longer : {X : Type 0} (xs : List X) (x : X) → length (xs ++ x ∷ []) ≡ suc (length xs)
one_longer xs x = omega (arith, length-append xs (x ∷ []))

-- ---- the last count

abbrev pub last_count : List ℕ → ℕ
last_count [] = 0
last_count (n ∷ []) = n
last_count (n ∷ m ∷ more) = last_count (m ∷ more)

pub last_behind : (xs : List ℕ) (n : ℕ) → last_count (xs ++ n ∷ []) ≡ n
last_behind [] n = refl
last_behind (x ∷ []) n = refl
last_behind (x ∷ y ∷ more) n = last_behind (y ∷ more) n

pub last_grown : (xs : List ℕ) → 1 ≤ length xs → last_count (on_last (λ n. suc n) xs) ≡ suc (last_count xs)
last_grown [] some = absurd (omega (arith, some))
last_grown (x ∷ []) some = refl
last_grown (x ∷ y ∷ []) some = refl
last_grown (x ∷ y ∷ z ∷ more) some = last_grown (y ∷ z ∷ more) (omega arith)

pub at_last : (xs : List ℕ) (k : ℕ) → suc k ≡ length xs → number_at xs k ≡ last_count xs
at_last [] k e = absurd (omega (arith, e))
at_last (x ∷ []) zero e = refl
at_last (x ∷ []) (suc k) e = absurd (omega (arith, e))
at_last (x ∷ y ∷ more) zero e = absurd (omega (arith, e))
at_last (x ∷ y ∷ more) (suc k) e = at_last (y ∷ more) k (omega (arith, e))

-- ---- the count at an index

pub at_behind : (xs : List ℕ) (k : ℕ) → number_at (xs ++ 0 ∷ []) k ≡ number_at xs k
at_behind [] zero = refl
at_behind [] (suc k) = refl
at_behind (x ∷ xs) zero = refl
at_behind (x ∷ xs) (suc k) = at_behind xs k

-- it stays, or is that of the last and one more
pub at_grown : (xs : List ℕ) (k : ℕ) → (number_at (on_last (λ n. suc n) xs) k ≡ number_at xs k)
    ⊎ ((suc k ≡ length xs) × (number_at (on_last (λ n. suc n) xs) k ≡ suc (number_at xs k)))
at_grown [] k = inl refl
at_grown (x ∷ []) zero = inr (refl, refl)
at_grown (x ∷ []) (suc k) = inl refl
at_grown (x ∷ y ∷ more) zero = inl refl
at_grown (x ∷ y ∷ more) (suc k) =
    elim (at_grown (y ∷ more) k) [
      | inl same ↦ inl same
      | inr last ↦ inr (omega (arith, last.0), last.1)
    ]

-- ---- parts

-- no more than one more
pub up_to : (a b : ℕ) → a ≤ suc b → (a ≤ b) ⊎ (a ≡ suc b)
up_to zero b few = inl (omega arith)
up_to (suc a) zero few = inr (omega (arith, few))
up_to (suc a) (suc b) few =
    elim (up_to a b (omega (arith, few))) [
      | inl less ↦ inl (omega (arith, less))
      | inr same ↦ inr (ap (λ n. suc n) same)
    ]

pub part_behind : (xs : List ℕ) (number part : ℕ) → IsPart (xs ++ 0 ∷ []) number part → IsPart xs number part
part_behind xs number part is = (is.0, is.1, omega (arith, is.2, at_behind xs (number - 1)))

pub part_stays_behind : (xs : List ℕ) (number part : ℕ) → IsPart xs number part → IsPart (xs ++ 0 ∷ []) number part
part_stays_behind xs number part is = (is.0, is.1, omega (arith, is.2, at_behind xs (number - 1)))

pub part_stays_grown : (xs : List ℕ) (number part : ℕ) → IsPart xs number part
    → IsPart (on_last (λ n. suc n) xs) number part
part_stays_grown xs number part is =
    elim (at_grown xs (number - 1)) [
      | inl same ↦ (is.0, is.1, omega (arith, is.2, same))
      | inr last ↦ (is.0, is.1, omega (arith, is.2, last.1))
    ]

-- the new part is that behind those of the last
pub part_grown : (xs : List ℕ) (number part : ℕ) → IsPart (on_last (λ n. suc n) xs) number part
    → IsPart xs number part ⊎ ((number ≡ length xs) × (part ≡ last_count xs + 1))
part_grown xs number part is =
    elim (at_grown xs (number - 1)) [
      | inl same ↦ inl (is.0, is.1, omega (arith, is.2, same))
      | inr last ↦ by last.0 last.1 (up_to part (number_at xs (number - 1)) (omega (arith, is.2, last.1)))
    ]
  where
    by : suc (number - 1) ≡ length xs
        → number_at (on_last (λ n. suc n) xs) (number - 1) ≡ suc (number_at xs (number - 1))
        → (part ≤ number_at xs (number - 1)) ⊎ (part ≡ suc (number_at xs (number - 1)))
        → IsPart xs number part ⊎ ((number ≡ length xs) × (part ≡ last_count xs + 1))
    by last one (inl few) = inl (is.0, is.1, few)
    by last one (inr next) =
        inr (omega (arith, last, is.0), omega (arith, next, at_last xs (number - 1) last))

-- that one is no part before, and is one then
pub part_is_new : (xs : List ℕ) (number part : ℕ) → number ≡ length xs → part ≡ last_count xs + 1
    → IsPart xs number part → ⊥
part_is_new xs number part e f is =
    let last : suc (number - 1) ≡ length xs = omega (arith, is.0, e) in
    omega (arith, is.2, f, at_last xs (number - 1) last)

pub part_is_told : (xs : List ℕ) (number part : ℕ) → number ≡ length xs → 1 ≤ number → part ≡ last_count xs + 1
    → IsPart (on_last (λ n. suc n) xs) number part
part_is_told xs number part e some f =
    let last : suc (number - 1) ≡ length (on_last (λ n. suc n) xs) =
    omega (arith, some, e, length_changed (λ n. suc n) xs) in (
      some,
      omega (arith, f),
      omega (arith, f, at_last (on_last (λ n. suc n) xs) (number - 1) last, last_grown xs (omega (arith, some, e))),
    )

pub some_or_none : (xs : List ℕ) → (xs ≡ []) ⊎ (1 ≤ length xs)
some_or_none [] = inl refl
some_or_none (x ∷ xs) = inr (omega arith)
