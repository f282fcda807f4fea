-- The exchange that gives a stamp keeps the log's rule.
use Rattle.std.proofs.Common.{◌≡◌, ℕ, ◌+◌, ◌<◌, ◌==◌, Bool, true, false, List, [], ◌∷◌, ◌++◌, length}
use Rattle.std.proofs.Common.{None, refl, ap, sym, subst, arith, inl, length-append}
use Rattle.std.proofs.lemmas.List.{append-nil}
use Rattle.std.proofs.lemmas.Bool.Decides.{nat_tests}
use prog.Atomic.{either}
use Rattle.ent_lists.proofs.Lists.{got_last}
use Rattle.logbook.specs.Pages.{Cell, cell, keeps, no_nib, step, Moves, Goes}
use Rattle.ent_stamp.specs.Stamps.{IsKept, Adds}

module _ {X : Type 0} where
  abbrev pub shown : List X → List X
  shown log = []

  abbrev pub moved : List X → List X → ℕ → Type 0
  moved before after number = Unit {0}

  adds_goes : (log seen : List X) (asked : X) (old : ℕ) (is : Bool) → (length log == old) ≡ is
      → Goes IsKept shown moved 0 (seen, (no_nib, None)) (λ n. either (n == old) (old + 1) n)
      (Adds (step 0 old (old + 1) asked) (seen, (no_nib, None))) ((length log, true) ∷ (0, true) ∷ []) log
  adds_goes log seen asked old true is =
      let here : length log ≡ old = grind (arith, nat_tests) in
      let more : either (length log == old) (old + 1) (length log) ≡ length (log ++ asked ∷ []) =
      rw is (omega (arith, length-append log (asked ∷ []))) in (
        keeps,
        asked ∷ [],
        None,
        tt,
        ap (λ (k : ℕ). (k, true) ∷ (0, true) ∷ []) more,
        inl (refl, refl),
        λ same. got_last log asked,
      )
  adds_goes log seen asked old false is =
      let all : log ++ [] ≡ log = append-nil log in
      let same : either (length log == old) (old + 1) (length log) ≡ length (log ++ []) =
      rw is (ap length (sym all)) in (
        keeps,
        [],
        None,
        tt,
        ap (λ (k : ℕ). (k, true) ∷ (0, true) ∷ []) same,
        inl (refl, refl),
        λ found. absurd (grind (arith, nat_tests)),
      )

  -- whatever the book is, the exchange puts what is asked at the place that was hoped for, or finds another number
  pub adds_moves : (seen : List X) (asked : X) (old : ℕ)
      → Moves IsKept shown moved 0 (seen, (no_nib, None)) (λ n. either (n == old) (old + 1) n)
      (Adds (step 0 old (old + 1) asked) (seen, (no_nib, None)))
  adds_moves seen asked old cells log kept prefix away =
      let P : List Cell → Type 0 =
      λ c. (0 < length c) × ((cell c 0).1 ≡ true)
      × Goes IsKept shown moved 0 (seen, (no_nib, None)) (λ n. either (n == old) (old + 1) n)
      (Adds (step 0 old (old + 1) asked) (seen, (no_nib, None))) c log in
      subst P (sym kept) (omega arith, refl, adds_goes log seen asked old (length log == old) refl)
