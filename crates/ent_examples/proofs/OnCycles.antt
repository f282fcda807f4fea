-- Whoever stands in a cycle of waits, waits.
use Rattle.std.proofs.Common.{◌≡◌, ℕ, zero, suc, ◌<◌, ◌≤◌, List, [], ◌∷◌, ◌++◌, length, refl, ap}
use Rattle.std.proofs.Common.{subst, ◌∙◌, arith}
use Rattle.std.specs.Prelude.{Contains, slice_index_or}
use Rattle.std.specs.List.{zip}
use Rattle.ent_group.specs.Cycle.{IsOnCycle, Closes}

paired : (xs ys : List ℕ) (k e : ℕ) → k < length xs → length xs ≤ length ys
    → (y : ℕ) × (k < length (zip xs ys)) × (slice_index_or (zip xs ys) k (e, e) ≡ (slice_index_or xs k e, y))
paired [] ys k e h l = absurd (omega arith)
paired (x ∷ xs) [] k e h l = absurd (omega arith)
paired (x ∷ xs) (y ∷ ys) zero e h l = (y, omega arith, refl)
paired (x ∷ xs) (y ∷ ys) (suc k) e h l =
    let rest = paired xs ys k e (omega arith) (omega arith) in
    (rest.0, (let r : k < length (zip xs ys) = rest.1 in omega arith), rest.2)

one_more : (z : ℕ) (xs : List ℕ) → length (xs ++ z ∷ []) ≡ suc (length xs)
one_more z [] = refl
one_more z (x ∷ xs) = ap suc (one_more z xs)

longer : (x : ℕ) (xs : List ℕ) → length (x ∷ xs) ≤ length (xs ++ x ∷ [])
longer x xs = let e = one_more x xs in omega arith

pub waits_itself : (waits : List (ℕ × ℕ)) (tx : ℕ) → IsOnCycle waits tx → (other : ℕ) × Contains waits (tx, other)
waits_itself waits tx h = of h.0 h.1 h.2
  where
    of : (members : List ℕ) → Closes waits members → Contains members tx → (other : ℕ) × Contains waits (tx, other)
    of [] closes there = absurd (let r : there.0 < 0 = there.1 in omega arith)
    of (x ∷ xs) closes there =
        let pair = paired (x ∷ xs) (xs ++ x ∷ []) there.0 tx there.1 (longer x xs) in (
          pair.0,
          subst (λ p. Contains waits p) (pair.2 ∙ ap (λ z. (z, pair.0)) there.2)
              (closes.linked there.0 (tx, tx) pair.1),
        )
