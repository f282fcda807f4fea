-- A list in which each number from 1 up to another stands once, and no other stands, is that long.
use Rattle.std.proofs.Common.{◌≡◌, ◌+◌, ℕ, zero, suc, Bool, true, false, cond, not, ◌==◌, List, [], ◌∷◌, ◌++◌, map}
use Rattle.std.proofs.Common.{length, refl, sym, ap, ◌∙◌, inl, arith}
use Rattle.std.specs.List.{filter}
use Rattle.std.proofs.lemmas.List.{length-append, length-map}
use Rattle.ent_protocol.specs.Reached.{IsReached}
use Rattle.ent_protocol.specs.Run.{Forms}
use Rattle.ent_protocol.specs.State.{State, members}
use Rattle.ent_protocol_laws.specs.Standing.{standing}
use Rattle.ent_protocol_laws.proofs.Left.{tx_of, dormant_tx, fated_tx}
use Rattle.ent_lists.specs.Elements.{same_number, number_itself}
use Rattle.ent_protocol_laws.proofs.Placed.{standing_counted, reached_stand}
use Rattle.ent_protocol_laws.proofs.Places.{within, within_beyond, Stands}
use Rattle.ent_protocol_laws.proofs.Times.{one_if, times, stands}

-- ---- without a number

module _ (m : ℕ) where
  abbrev others : List ℕ → List ℕ
  others xs = filter (λ x. not (x == m)) xs

  long_without : (xs : List ℕ) → length xs ≡ times m xs + length (others xs)
  long_without [] = refl
  long_without (x ∷ xs) = by (x == m) (long_without xs)
    where
      by : (b : Bool) → length xs ≡ times m xs + length (others xs)
          → suc (length xs) ≡ one_if b (times m xs) + length (cond (not b) (x ∷ others xs) (others xs))
      by true e = omega (arith, e)
      by false e = omega (arith, e)

  none_without : (xs : List ℕ) → times m (others xs) ≡ 0
  none_without [] = refl
  none_without (x ∷ xs) = by (x == m) refl (none_without xs)
    where
      by : (b : Bool) → (x == m) ≡ b → times m (others xs) ≡ 0
          → times m (cond (not b) (x ∷ others xs) (others xs)) ≡ 0
      by true is e = e
      by false is e = ap (λ b. one_if b (times m (others xs))) is ∙ e

  others_without : (n : ℕ) (xs : List ℕ) → (m == n) ≡ false → times n (others xs) ≡ times n xs
  others_without n [] differs = refl
  others_without n (x ∷ xs) differs = by (x == m) refl (others_without n xs differs)
    where
      by : (b : Bool) → (x == m) ≡ b → times n (others xs) ≡ times n xs
          → times n (cond (not b) (x ∷ others xs) (others xs)) ≡ one_if (x == n) (times n xs)
      by true is e =
          let other : (x == n) ≡ false = ap (λ k. k == n) (same_number x m is) ∙ differs in
          e ∙ ap (λ b. one_if b (times n xs)) (sym other)
      by false is e = ap (one_if (x == n)) e

-- ---- each once

pub counted_long : (k : ℕ) (xs : List ℕ) → ((n : ℕ) → times n xs ≡ within n k) → length xs ≡ k
counted_long zero [] h = refl
counted_long zero (x ∷ xs) h =
    let none : times x (x ∷ xs) ≡ 0 = h x in
    let there = stands x (x ∷ xs) (inl refl) in
    absurd (omega (arith, none, there))
counted_long (suc k) xs h =
    let long = long_without (suc k) xs in
    let one : times (suc k) xs ≡ 1 = h (suc k) ∙ last in
    let rest = counted_long k (others (suc k) xs) left in
    omega (arith, long, one, rest)
  where
    last : within (suc k) (suc k) ≡ 1
    last =
        ap (λ b. one_if b (within (suc k) k)) (number_itself (suc k))
        ∙ ap suc (within_beyond (suc k) k (omega arith))

    left : (n : ℕ) → times n (others (suc k) xs) ≡ within n k
    left n = by (suc k == n) refl
      where
        by : (b : Bool) → (suc k == n) ≡ b → times n (others (suc k) xs) ≡ within n k
        by true is =
            let same = same_number (suc k) n is in
            ap (λ m. times m (others (suc k) xs)) (sym same) ∙ none_without (suc k) xs
            ∙ sym (within_beyond n k (omega (arith, same)))
        by false is = others_without (suc k) n xs is ∙ h n ∙ ap (λ b. one_if b (within n k)) is

-- ---- transactions

counted : (s : State) → Stands s → length s.fates + length s.dormant + length (members s) ≡ length s.submitted
counted s h =
    let all : length (standing s) ≡ length s.submitted =
    counted_long (length s.submitted) (standing s) (standing_counted s h) in
    let joined = length-append (map tx_of (members s)) (map dormant_tx s.dormant ++ map fated_tx s.fates) in
    let behind = length-append (map dormant_tx s.dormant) (map fated_tx s.fates) in
    let of_run = length-map (members s) tx_of in
    let of_dormant = length-map s.dormant dormant_tx in
    let of_fated = length-map s.fates fated_tx in
    omega (arith, all, joined, behind, of_run, of_dormant, of_fated)

pub reached_counted : {F : Type 0} (forms : Forms F) (s : State) → IsReached forms s
    → length s.fates + length s.dormant + length (members s) ≡ length s.submitted
reached_counted forms s r = counted s (reached_stand forms s r)
