-- Those who leave stand apart from those who wait, and from those who are finished, whoever of them left before.
use Rattle.std.proofs.Common.{◌≡◌, ◌==◌, ◌||◌, ℕ, false, List, [], ◌∷◌, ◌++◌, map, refl, sym, ap, subst, ◌∙◌, arith}
use Rattle.std.proofs.Common.{Option, Some, None, nat_eq, reverse}
use Rattle.std.specs.List.{AllByRecursion, IsDistinct, cons_option, list_any}
use Rattle.std.proofs.lemmas.List.{append-nil, map-append, reverse-append}
use Rattle.ent_semantics.specs.declared.book.Fate.{Fate}
use Rattle.ent_semantics.specs.declared.book.Fated.{Fated}
use Rattle.ent_protocol.specs.Rollback.{Cause, dormant_by, fate_of, fated_by}
use Rattle.ent_protocol.specs.State.{Submitted, Dormant, Member}
use Rattle.ent_protocol.proofs.Numbers.{waiting_tx}

all_but : (P : ℕ → Type 0) (xs ys : List ℕ) (y : ℕ) → AllByRecursion P (xs ++ y ∷ ys) → AllByRecursion P (xs ++ ys)
all_but P [] ys y all = all.1
all_but P (x ∷ xs) ys y all = (all.0, all_but P xs ys y all.1)

one_of : (P : ℕ → Type 0) (xs ys : List ℕ) (y : ℕ) → AllByRecursion P (xs ++ y ∷ ys) → P y
one_of P [] ys y all = all.0
one_of P (x ∷ xs) ys y all = one_of P xs ys y all.1

distinct_but : (xs ys : List ℕ) (y : ℕ) → IsDistinct nat_eq (xs ++ y ∷ ys) → IsDistinct nat_eq (xs ++ ys)
unfolding IsDistinct
distinct_but [] ys y distinct = distinct.1
distinct_but (x ∷ xs) ys y distinct =
    (all_but (λ n. nat_eq x n ≡ false) xs ys y distinct.0, distinct_but xs ys y distinct.1)

apart_from : (xs ys : List ℕ) (y : ℕ) → IsDistinct nat_eq (xs ++ y ∷ ys)
    → AllByRecursion (λ n. nat_eq y n ≡ false) (xs ++ ys)
unfolding IsDistinct
apart_from [] ys y distinct = distinct.0
apart_from (x ∷ xs) ys y distinct =
    let apart : nat_eq x y ≡ false = one_of (λ n. nat_eq x n ≡ false) xs ys y distinct.0 in
    (grind (arith, apart), apart_from xs ys y distinct.1)

-- a number among others that are distinct from it may as well be the first
first_distinct : (xs ys : List ℕ) (y : ℕ) → IsDistinct nat_eq (xs ++ y ∷ ys) → IsDistinct nat_eq (y ∷ (xs ++ ys))
unfolding IsDistinct
first_distinct xs ys y distinct = (apart_from xs ys y distinct, distinct_but xs ys y distinct)

-- a number behind others that are distinct from it isn't among them
pub not_before : (xs ys : List ℕ) (y : ℕ) → IsDistinct nat_eq (xs ++ y ∷ ys) → list_any (λ n. n == y) xs ≡ false
unfolding IsDistinct
not_before [] ys y distinct = refl
not_before (x ∷ xs) ys y distinct =
    let apart : nat_eq x y ≡ false = one_of (λ n. nat_eq x n ≡ false) xs ys y distinct.0 in
    let other : (x == y) ≡ false = grind (arith, apart) in
    λ i. other i || not_before xs ys y distinct.1 i

module _ {A : Type 0} where
  joined : (xs ys zs : List A) → (xs ++ ys) ++ zs ≡ xs ++ (ys ++ zs)
  joined [] ys zs = refl
  joined (x ∷ xs) ys zs = ap (λ (all : List A). x ∷ all) (joined xs ys zs)

  -- one after the other goes to the end
  pub each_behind : (xs : List A) (o : Option A) (ys : List A) → (xs ++ cons_option o []) ++ ys ≡ xs ++ cons_option o ys
  each_behind xs None ys = ap (λ (all : List A). all ++ ys) (append-nil xs)
  each_behind xs (Some x) ys = joined xs (x ∷ []) ys

  -- one after the other goes to the front
  pub each_before : (xs : List A) (o : Option A) (ys : List A)
      → reverse ys ++ (cons_option o [] ++ xs) ≡ reverse (cons_option o ys) ++ xs
  each_before xs None ys = refl
  each_before xs (Some x) ys =
      sym (joined (reverse ys) (x ∷ []) xs) ∙ ap (λ (all : List A). all ++ xs) (sym (reverse-append (x ∷ []) ys))

  -- where one of this number, or none, went to the end, the others stand apart still
  apart_after : (number : A → ℕ) (xs : List A) (o : Option A) (n : ℕ) (rest : List ℕ)
      → ((x : A) → o ≡ Some x → number x ≡ n) → IsDistinct nat_eq (map number xs ++ n ∷ rest)
      → IsDistinct nat_eq (map number (xs ++ cons_option o []) ++ rest)
  apart_after number xs None n rest own distinct =
      subst (λ (all : List A). IsDistinct nat_eq (map number all ++ rest)) (sym (append-nil xs))
      (distinct_but (map number xs) rest n distinct)
  apart_after number xs (Some x) n rest own distinct =
      subst (λ (all : List ℕ). IsDistinct nat_eq all)
      (sym (ap (λ (all : List ℕ). all ++ rest) (map-append number xs (x ∷ []))
      ∙ joined_numbers (map number xs) (number x) rest
      ∙ ap (λ (m : ℕ). map number xs ++ m ∷ rest) (own x refl))) distinct
    where
      joined_numbers : (ns : List ℕ) (m : ℕ) (more : List ℕ) → (ns ++ m ∷ []) ++ more ≡ ns ++ m ∷ more
      joined_numbers [] m more = refl
      joined_numbers (k ∷ ns) m more = ap (λ (all : List ℕ). k ∷ all) (joined_numbers ns m more)

  -- where it went to the front
  apart_before : (number : A → ℕ) (xs : List A) (o : Option A) (n : ℕ) (rest : List ℕ)
      → ((x : A) → o ≡ Some x → number x ≡ n) → IsDistinct nat_eq (map number xs ++ n ∷ rest)
      → IsDistinct nat_eq (map number (cons_option o [] ++ xs) ++ rest)
  apart_before number xs None n rest own distinct = distinct_but (map number xs) rest n distinct
  apart_before number xs (Some x) n rest own distinct =
      subst (λ (m : ℕ). IsDistinct nat_eq (m ∷ (map number xs ++ rest))) (sym (own x refl))
      (first_distinct (map number xs) rest n distinct)

finished_number : (submitted : List Submitted) (cause : Cause) (m : Member) (fated : Fated)
    → fated_by submitted cause m ≡ Some fated → fated.tx ≡ m.tx
finished_number submitted cause m fated is = by (fate_of submitted cause m) refl
  where
    by : (f : Option Fate) → fate_of submitted cause m ≡ f → fated.tx ≡ m.tx
    by None e = let k : None ≡ Some fated = rw e at is in cc
    by (Some fate) e =
        let k : Some (record { tx = m.tx; fate = fate }) ≡ Some fated = rw e at is in
        cc

pub awake_after : (submitted : List Submitted) (cause : Cause) (m : Member) (dormant : List Dormant) (rest : List ℕ)
    → IsDistinct nat_eq (map (λ own. own.tx) dormant ++ m.tx ∷ rest)
    → IsDistinct nat_eq (map (λ own. own.tx) (cons_option (dormant_by submitted cause m) [] ++ dormant) ++ rest)
awake_after submitted cause m dormant rest =
    apart_before (λ (own : Dormant). own.tx) dormant (dormant_by submitted cause m) m.tx rest
    (waiting_tx submitted cause m)

pub unfinished_after : (submitted : List Submitted) (cause : Cause) (m : Member) (fates : List Fated) (rest : List ℕ)
    → IsDistinct nat_eq (map (λ fated. fated.tx) fates ++ m.tx ∷ rest)
    → IsDistinct nat_eq (map (λ fated. fated.tx) (fates ++ cons_option (fated_by submitted cause m) []) ++ rest)
unfinished_after submitted cause m fates rest =
    apart_after (λ (fated : Fated). fated.tx) fates (fated_by submitted cause m) m.tx rest
    (finished_number submitted cause m)
