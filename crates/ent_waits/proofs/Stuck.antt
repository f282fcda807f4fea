-- Who stands in a cycle is stuck: each of a cycle waits for one of it.
use Rattle.std.proofs.Common.{◌≡◌, ◌≢◌, ℕ, ◌+◌, ◌<◌, ◌≤◌, ◌==◌, ◌⊎◌, inl, inr, Bool, true, false}
use Rattle.std.proofs.Common.{not, ◌||◌, List, [], ◌∷◌, length, nat_eq, bit_and, bit_or, refl, sym, ap, subst, ◌∙◌}
use Rattle.std.proofs.Common.{arith}
use Rattle.std.proofs.Common.{true≢false}
use Rattle.std.specs.Prelude.{All, AllPairs, Contains, slice_index}
use Rattle.std.specs.Int.{bit_at}
use Rattle.std.proofs.lemmas.Bool.{eqb-true, cases_lt}
use Rattle.std.proofs.lemmas.Bool.Decides.{nat_tests}
use Rattle.std.proofs.lemmas.Nat.Bits.{bit_at-lt, bit_at-zero, bit_at_and, bit_at_or}
use Rattle.std.proofs.lemmas.List.Elements.{All-contains}
use Rattle.ent_lists.proofs.Truth.{or_either}
use Rattle.ent_group.specs.Cycle.{IsOnCycle}
use Rattle.ent_group.specs.Marks.{IsMarked, has_mark}
use Rattle.ent_group.specs.Reach.{IsAt}
use Rattle.ent_group.proofs.CycleWalk.{next_of}
use Rattle.ent_group.proofs.Walks.{no_mark}
use Rattle.ent_waits.specs.Rows.{IsMarkedPair}

-- ---- marks

eq_is : (n m : ℕ) → n ≡ m → (n == m) ≡ true
eq_is n m is = grind (arith, nat_tests)

-- two rows with a mark at one place have bits together
pub share_bit : (left right i : ℕ) → has_mark left i ≡ true → has_mark right i ≡ true
    → not (nat_eq (bit_and left right) 0) ≡ true
unfolding has_mark
share_bit left right i own other =
    elim (nat_eq (bit_and left right) 0) as (λ b. nat_eq (bit_and left right) 0 ≡ b → not b ≡ true) [
      | true ↦ λ e.
          let empty : bit_at (bit_and left right) i ≡ 0 =
          ap (λ n. bit_at n i) (eqb-true (bit_and left right) 0 e) ∙ bit_at-zero i in
          let mine : bit_at left i ≡ 1 = eqb-true (bit_at left i) 1 own in
          let theirs : bit_at right i ≡ 1 = eqb-true (bit_at right i) 1 other in
          absurd (omega (arith, empty, mine, theirs, bit_at_and left right i))
      | false ↦ λ e. refl
    ] refl

-- a row with the bits of two has the marks of both, and one with the bits that they share those that they share
pub bit_of_either : (left right i : ℕ) → (has_mark left i ≡ true) ⊎ (has_mark right i ≡ true)
    → has_mark (bit_or left right) i ≡ true
unfolding has_mark
bit_of_either left right i either = elim either [
  | inl own ↦
      let mine : bit_at left i ≡ 1 = eqb-true (bit_at left i) 1 own in
      eq_is (bit_at (bit_or left right) i) 1 (omega (arith, mine, bit_at-lt right i, bit_at_or left right i))
  | inr other ↦
      let theirs : bit_at right i ≡ 1 = eqb-true (bit_at right i) 1 other in
      eq_is (bit_at (bit_or left right) i) 1 (omega (arith, theirs, bit_at-lt left i, bit_at_or left right i))
]

pub bit_of_both : (left right i : ℕ) → has_mark left i ≡ true → has_mark right i ≡ true
    → has_mark (bit_and left right) i ≡ true
unfolding has_mark
bit_of_both left right i own other =
    let mine : bit_at left i ≡ 1 = eqb-true (bit_at left i) 1 own in
    let theirs : bit_at right i ≡ 1 = eqb-true (bit_at right i) 1 other in
    eq_is (bit_at (bit_and left right) i) 1 (omega (arith, mine, theirs, bit_at_and left right i))

abbrev pub MarksOneMore : ℕ → ℕ → ℕ → Type 0
MarksOneMore row new at = (i : ℕ) → has_mark new i ≡ ((i == at) || has_mark row i)

pub mark_kept : (row new at i : ℕ) → MarksOneMore row new at → has_mark row i ≡ true → has_mark new i ≡ true
mark_kept row new at i step old = step i ∙ or_either (i == at) (has_mark row i) (inr old)

pub mark_made : (row new at i : ℕ) → MarksOneMore row new at → i ≡ at → has_mark new i ≡ true
mark_made row new at i step is = step i ∙ or_either (i == at) (has_mark row i) (inl (eq_is i at is))

-- ---- the places at which a row has a mark

abbrev pub AreAwaited : List ℕ → ℕ → ℕ → Type 0
AreAwaited rows awaited count = (i j : ℕ) → i < count → IsMarked rows i j → has_mark awaited j ≡ true

pub awaited_more : (rows : List ℕ) (awaited at : ℕ) → AreAwaited rows awaited at
    → AreAwaited rows (bit_or awaited (slice_index rows at)) (at + 1)
awaited_more rows awaited at old = λ i j below marked. elim (cases_lt i at) [
  | inl before ↦ bit_of_either awaited (slice_index rows at) j (inl (old i j before marked))
  | inr past ↦
      let here : i ≡ at = omega arith in
      bit_of_either awaited (slice_index rows at) j (inr (subst (λ (k : ℕ). IsMarked rows k j) here marked))
]

-- ---- the places whose rows have a mark where a row of the stuck has one

abbrev pub AreStuck : List ℕ → ℕ → ℕ → ℕ → Type 0
AreStuck rows stuck left count =
    (i j : ℕ) → i < count → IsMarked rows i j → has_mark stuck j ≡ true → has_mark left i ≡ true

-- of those that were stuck
abbrev pub AreStillStuck : List ℕ → ℕ → ℕ → Type 0
AreStillStuck rows stuck left =
    (i j : ℕ) → i < length rows → has_mark stuck i ≡ true → IsMarked rows i j → has_mark stuck j ≡ true
    → has_mark left i ≡ true

pub stuck_both : (rows : List ℕ) (stuck waiting : ℕ) → AreStuck rows stuck waiting (length rows)
    → AreStillStuck rows stuck (bit_and waiting stuck)
stuck_both rows stuck waiting are = λ i j below own marked other.
    bit_of_both waiting stuck i (are i j below marked other) own

pub stuck_more : (rows : List ℕ) (stuck left new at : ℕ) → MarksOneMore left new at → AreStuck rows stuck left at
    → AreStuck rows stuck new (at + 1)
stuck_more rows stuck left new at step old = λ i j below marked other. elim (cases_lt i at) [
  | inl before ↦ mark_kept left new at i step (old i j before marked other)
  | inr past ↦ let here : i ≡ at = omega arith in mark_made left new at i step here
]

pub stuck_same : (rows : List ℕ) (stuck left at : ℕ) (share : Bool) → share ≡ false
    → ((i : ℕ) → has_mark (slice_index rows at) i ≡ true → has_mark stuck i ≡ true → share ≡ true)
    → AreStuck rows stuck left at → AreStuck rows stuck left (at + 1)
stuck_same rows stuck left at share none all old = λ i j below marked other. elim (cases_lt i at) [
  | inl before ↦ old i j before marked other
  | inr past ↦
      let here : i ≡ at = omega arith in
      let own : IsMarked rows at j = subst (λ (k : ℕ). IsMarked rows k j) here marked in
      absurd (true≢false (sym (all j own other) ∙ none))
]

-- ---- cycles

-- one of a cycle waits for one of it
on_cycle_goes_on : (waits : List (ℕ × ℕ)) (x : ℕ) → IsOnCycle waits x
    → (y : ℕ) × Contains waits (x, y) × IsOnCycle waits y
on_cycle_goes_on waits x ([], found_cycle, inside) = absurd (omega (arith, found_cycle.not_empty))
on_cycle_goes_on waits x (m ∷ ms, found_cycle, inside) =
    let next = next_of waits (m ∷ ms) m x found_cycle.linked inside in (
      next.0,
      next.1,
      (m ∷ ms, found_cycle, elim next.2 [ inl there ↦ there | inr last ↦ (0, omega arith, sym last) ]),
    )

same_place : (numbers : List ℕ) → AllPairs (λ x y. x ≢ y) numbers → (x i j : ℕ) → IsAt numbers x i
    → IsAt numbers x j → i ≡ j
same_place numbers distinct x i j (in_i, at_i) (in_j, at_j) = elim (cases_lt i j) [
  | inl below ↦ absurd (distinct i j 0 below in_j (at_i ∙ sym at_j))
  | inr above ↦ elim (cases_lt j i) [
    | inl other ↦ absurd (distinct j i 0 other in_i (at_j ∙ sym at_i))
    | inr upper ↦ omega (arith, above, upper)
  ]
]

-- whoever is awaited, and stands in a cycle of pairs that are marked, has its place marked
abbrev pub CyclesAreStuck : List ℕ → ℕ → Type 0
CyclesAreStuck rows stuck =
    (numbers : List ℕ) (waits : List (ℕ × ℕ)) → AllPairs (λ x y. x ≢ y) numbers
    → length numbers ≤ length rows → All (IsMarkedPair numbers rows) waits
    → (w x : ℕ) → Contains waits (w, x) → IsOnCycle waits x → (i : ℕ) → IsAt numbers x i → has_mark stuck i ≡ true

abbrev pub NoRing : List ℕ → Type 0
NoRing rows =
    (numbers : List ℕ) (waits : List (ℕ × ℕ)) → AllPairs (λ x y. x ≢ y) numbers
    → length numbers ≤ length rows → All (IsMarkedPair numbers rows) waits
    → (x : ℕ) → ¬ IsOnCycle waits x

pub all_awaited : (rows : List ℕ) (awaited : ℕ) → AreAwaited rows awaited (length rows)
    → CyclesAreStuck rows awaited
all_awaited rows awaited are = λ numbers waits distinct long marked w x waited found_cycle i at.
    let pair = All-contains (IsMarkedPair numbers rows) waits (w, x) marked waited in
    let here : pair.awaited ≡ i = same_place numbers distinct x pair.awaited i pair.other at in
    subst (λ (k : ℕ). has_mark awaited k ≡ true) here
    (are pair.waiter pair.awaited (omega (arith, pair.waits.0, long)) pair.marked)

pub still : (rows : List ℕ) (stuck new : ℕ) → AreStillStuck rows stuck new → CyclesAreStuck rows stuck
    → CyclesAreStuck rows new
still rows stuck new step old = λ numbers waits distinct long marked w x waited found_cycle i at.
    let next = on_cycle_goes_on waits x found_cycle in
    let pair = All-contains (IsMarkedPair numbers rows) waits (x, next.0) marked next.1 in
    let here : pair.waiter ≡ i = same_place numbers distinct x pair.waiter i pair.waits at in
    let row : IsMarked rows i pair.awaited = subst (λ (k : ℕ). IsMarked rows k pair.awaited) here pair.marked in
    step i pair.awaited (omega (arith, at.0, long))
    (old numbers waits distinct long marked w x waited found_cycle i at) row
    (old numbers waits distinct long marked x next.0 next.1 next.2 pair.awaited pair.other)

pub none_stuck : (rows : List ℕ) (stuck : ℕ) → stuck ≡ 0 → CyclesAreStuck rows stuck → NoRing rows
none_stuck rows stuck none old = λ numbers waits distinct long marked x found_cycle.
    let next = on_cycle_goes_on waits x found_cycle in
    let pair = All-contains (IsMarkedPair numbers rows) waits (x, next.0) marked next.1 in
    true≢false (sym (old numbers waits distinct long marked x next.0 next.1 next.2 pair.awaited pair.other)
    ∙ ap (λ row. has_mark row pair.awaited) none ∙ no_mark pair.awaited)

pub is_zero : (n : ℕ) → not (nat_eq n 0) ≡ false → n ≡ 0
is_zero n = elim (nat_eq n 0) as (λ b. nat_eq n 0 ≡ b → not b ≡ false → n ≡ 0) [
  | true ↦ λ e some. eqb-true n 0 e
  | false ↦ λ e some. absurd (true≢false some)
] refl
