-- Walks along pairs, and the marks of who reaches whom.
use Rattle.std.proofs.Common.{◌≡◌, ℕ, zero, suc, ◌+◌, ◌*◌, ◌%◌, ◌^◌, ◌<◌, ◌≤◌, ◌==◌, ◌⊎◌, inl, inr, Bool, true, false}
use Rattle.std.proofs.Common.{◌&&◌, ◌||◌, if◌then◌else◌, max, List, [], ◌∷◌, ◌++◌, length, map, take, get_or, replicate}
use Rattle.std.proofs.Common.{◌↔◌, refl, sym, ap, subst, ◌∙◌, arith, true≢false}
use Rattle.std.specs.Prelude.{All, Contains, slice_index, Option, None, Some, IfSome, IsNone}
use Rattle.std.specs.Int.{bit_at, w64}
use Rattle.std.specs.Int.RustNames.{bit_or}
use Rattle.std.proofs.lemmas.Bool.{eqb-true, eqb-false, cases_lt}
use Rattle.std.proofs.lemmas.Bool.Decides.{nat_tests}
use Rattle.std.proofs.lemmas.Nat.Bits.{bit_at-zero, bit_at_or, bit_at-lt, bit_at_set_same, bit_at_set_other}
use Rattle.std.proofs.lemmas.List.{get_or-replicate, get_or_past, get_or_default, take_more}
use Rattle.std.proofs.lemmas.List.Elements.{All-head, All-tail, All-cons, All-contains, All-nil, Contains-append_left}
use Rattle.std.proofs.lemmas.List.Elements.{Contains-push, Contains-push_cases}
use Rattle.ent_lists.specs.Elements.{or_cases, and_both}
use Rattle.ent_lists.proofs.Truth.{or_either}
use Rattle.ent_group.specs.Cycle.{waiters_of, links_to, IsOnCycle}
use Rattle.ent_group.specs.Marks.{has_mark, IsMarked, joined}
use Rattle.ent_group.specs.Reach.{AreWaiters, IsAt, AreInPair, IsWalk, greater}
use Rattle.ent_group.proofs.CycleWalk.{next_of, on_cycle_waiter}

-- ---- walks

abbrev Linked : List (ℕ × ℕ) → List ℕ → ℕ → Type 0
Linked waits xs end = All (Contains waits) (links_to xs end)

pub walk_pair : (waits : List (ℕ × ℕ)) (x y : ℕ) → Contains waits (x, y) → IsWalk waits x y
walk_pair waits x y there = ([], All-cons (Contains waits) (x, y) [] there (All-nil (Contains waits)))

join : (waits : List (ℕ × ℕ)) (x : ℕ) (xs : List ℕ) (y : ℕ) (ys : List ℕ) (z : ℕ) → Linked waits (x ∷ xs) y
    → Linked waits (y ∷ ys) z → Linked waits (x ∷ (xs ++ y ∷ ys)) z
join waits x [] y ys z left right =
    All-cons (Contains waits) (x, y) (links_to (y ∷ ys) z) (All-head (Contains waits) (x, y) [] left) right
join waits x (w ∷ xs) y ys z left right =
    All-cons (Contains waits) (x, w) (links_to (w ∷ (xs ++ y ∷ ys)) z)
    (All-head (Contains waits) (x, w) (links_to (w ∷ xs) y) left)
    (join waits w xs y ys z (All-tail (Contains waits) (x, w) (links_to (w ∷ xs) y) left) right)

pub walk_on : (waits : List (ℕ × ℕ)) (x y z : ℕ) → IsWalk waits x y → IsWalk waits y z → IsWalk waits x z
walk_on waits x y z (xs, left) (ys, right) = (xs ++ y ∷ ys, join waits x xs y ys z left right)

-- from one of a chain to where it leads, and from its first to one of it
walk_to : (waits : List (ℕ × ℕ)) (x : ℕ) (xs : List ℕ) (end f : ℕ) → Linked waits (x ∷ xs) end → Contains (x ∷ xs) f
    → IsWalk waits f end
walk_to waits x xs end f linked (zero, within, e) = subst (λ (v : ℕ). IsWalk waits v end) e (xs, linked)
walk_to waits x [] end f linked (suc k, within, e) = absurd (omega arith)
walk_to waits x (y ∷ ys) end f linked (suc k, within, e) =
    walk_to waits y ys end f (All-tail (Contains waits) (x, y) (links_to (y ∷ ys) end) linked) (k, omega arith, e)

walk_from : (waits : List (ℕ × ℕ)) (x : ℕ) (xs : List ℕ) (end f : ℕ) → Linked waits (x ∷ xs) end → Contains xs f
    → IsWalk waits x f
walk_from waits x [] end f linked (k, within, e) = absurd (omega arith)
walk_from waits x (y ∷ ys) end f linked (zero, within, e) =
    subst (IsWalk waits x) e (walk_pair waits x y (All-head (Contains waits) (x, y) (links_to (y ∷ ys) end) linked))
walk_from waits x (y ∷ ys) end f linked (suc k, within, e) =
    walk_on waits x y f (walk_pair waits x y (All-head (Contains waits) (x, y) (links_to (y ∷ ys) end) linked))
    (walk_from waits y ys end f (All-tail (Contains waits) (x, y) (links_to (y ∷ ys) end) linked) (k, omega arith, e))

-- one stands in a cycle where it waits, over others, for itself
pub on_cycle_walk : (waits : List (ℕ × ℕ)) (x : ℕ) → IsOnCycle waits x → IsWalk waits x x
on_cycle_walk waits x ([], found_cycle, inside) = absurd (omega (arith, found_cycle.not_empty))
on_cycle_walk waits x (m ∷ ms, found_cycle, (zero, within, e)) =
    subst (λ (v : ℕ). IsWalk waits v v) e (ms, found_cycle.linked)
on_cycle_walk waits x (m ∷ ms, found_cycle, (suc k, within, e)) =
    walk_on waits x m x (walk_to waits m ms m x found_cycle.linked (suc k, within, e))
    (walk_from waits m ms m x found_cycle.linked (k, omega arith, e))

pub walk_on_cycle : (waits : List (ℕ × ℕ)) (x : ℕ) → IsWalk waits x x → IsOnCycle waits x
walk_on_cycle waits x (xs, linked) =
    (x ∷ xs, record { not_empty = omega arith; linked = linked }, (0, omega arith, refl))

-- ---- marks

pub no_mark : (at : ℕ) → has_mark 0 at ≡ false
unfolding has_mark
no_mark at = ap (λ n. n == 1) (bit_at-zero at)

pub with_bit : (row at i : ℕ) → at < 64 → has_mark (bit_or row (1 * 2 ^ at % 2 ^ 64)) i ≡ ((i == at) || has_mark row i)
unfolding has_mark
with_bit row at i within =
    elim (i == at) as (λ b. (i == at) ≡ b
    → (bit_at (bit_or row (1 * 2 ^ at % 2 ^ 64)) i == 1) ≡ (b || (bit_at row i == 1))) [
      | true ↦ λ e. ap (λ n. n == 1) (ap (bit_at (bit_or row (1 * 2 ^ at % 2 ^ 64))) (eqb-true i at e)
          ∙ bit_at_set_same w64 row at within)
      | false ↦ λ e. ap (λ n. n == 1) (bit_at_set_other w64 row at within i (eqb-false i at e))
    ] refl

one_of_two : (a b : ℕ) → a < 2 → b < 2 → (max a b == 1) ≡ ((a == 1) || (b == 1))
one_of_two a b small less = grind (arith, nat_tests)

either_mark : (row beyond at : ℕ) → has_mark (bit_or row beyond) at ≡ (has_mark row at || has_mark beyond at)
unfolding has_mark
either_mark row beyond at = ap (λ n. n == 1) (bit_at_or row beyond at) ∙ one_of_two (bit_at row at) (bit_at beyond at)
    (bit_at-lt row at) (bit_at-lt beyond at)

joined_mark : (middle beyond row at : ℕ)
    → has_mark (joined middle beyond row) at ≡ (has_mark row at || (has_mark row middle && has_mark beyond at))
joined_mark middle beyond row at =
    elim (has_mark row middle) as (λ b. has_mark (if b then bit_or row beyond else row)
    at ≡ (has_mark row at || (b && has_mark beyond at))) [
      | true ↦ either_mark row beyond at
      | false ↦ or_nothing (has_mark row at)
    ]
  where
    or_nothing : (b : Bool) → b ≡ (b || false)
    or_nothing true = refl
    or_nothing false = refl

joined_nothing : (middle beyond : ℕ) → joined middle beyond 0 ≡ 0
joined_nothing middle beyond = ap (λ (b : Bool). if b then bit_or 0 beyond else 0) (no_mark middle)

index-map : (f : ℕ → ℕ) → f 0 ≡ 0 → (xs : List ℕ) (i : ℕ) → slice_index (map f xs) i ≡ f (slice_index xs i)
index-map f none [] i = sym none
index-map f none (x ∷ xs) zero = refl
index-map f none (x ∷ xs) (suc i) = index-map f none xs i

abbrev pub rows_over : List ℕ → ℕ → List ℕ
rows_over rows middle = map (joined middle (slice_index rows middle)) rows

mark_is : (rows : List ℕ) (middle i j : ℕ)
    → has_mark (slice_index (rows_over rows middle) i)
    j ≡ (has_mark (slice_index rows i) j
    || (has_mark (slice_index rows i) middle && has_mark (slice_index rows middle) j))
mark_is rows middle i j =
    let beyond = slice_index rows middle in
    ap (λ row. has_mark row j) (index-map (joined middle beyond) (joined_nothing middle beyond) rows i)
    ∙ joined_mark middle beyond (slice_index rows i) j

mark_over : (rows : List ℕ) (middle i j : ℕ) → IsMarked (rows_over rows middle) i j
    → IsMarked rows i j ⊎ (IsMarked rows i middle × IsMarked rows middle j)
mark_over rows middle i j marked =
    elim (or_cases (has_mark (slice_index rows i) j)
    (has_mark (slice_index rows i) middle && has_mark (slice_index rows middle) j)
    (sym (mark_is rows middle i j) ∙ marked)) [
      | inl old ↦ inl old
      | inr both ↦ inr (and_both (has_mark (slice_index rows i) middle) (has_mark (slice_index rows middle) j) both)
    ]

mark_kept : (rows : List ℕ) (middle i j : ℕ) → IsMarked rows i j → IsMarked (rows_over rows middle) i j
mark_kept rows middle i j old =
    mark_is rows middle i j ∙ or_either (has_mark (slice_index rows i) j)
    (has_mark (slice_index rows i) middle && has_mark (slice_index rows middle) j) (inl old)

mark_made : (rows : List ℕ) (middle i j : ℕ) → IsMarked rows i middle → IsMarked rows middle j
    → IsMarked (rows_over rows middle) i j
mark_made rows middle i j to from =
    mark_is rows middle i j
    ∙ or_either (has_mark (slice_index rows i) j)
    (has_mark (slice_index rows i) middle && has_mark (slice_index rows middle) j) (inr (λ k. to k && from k))

-- ---- the rows of the pairs alone

pub no_rows : (waiters : List ℕ) (i j : ℕ) → IsMarked (replicate 64 0) i j ↔ AreInPair [] waiters i j
no_rows waiters i j = (
  λ marked. absurd (true≢false (sym marked ∙ ap (λ row. has_mark row j) (empty_row i) ∙ no_mark j)),
  λ pair. absurd (omega (arith, pair.2.1)),
)
  where
    empty_row : (i : ℕ) → slice_index (replicate 64 0) i ≡ 0
    empty_row i = elim (cases_lt i 64) [
      | inl below ↦ get_or-replicate 64 i 0 0 below
      | inr past ↦ get_or_past (replicate 64 0) i 0 (omega arith)
    ]

pub more_rows : (waits : List (ℕ × ℕ)) (waiters rows new : List ℕ) (k : ℕ) (x y : ℕ) → k < length waits
    → (x, y) ≡ get_or waits k (0, 0) →
    ((i j : ℕ) → IsMarked rows i j ↔ AreInPair (take k waits) waiters i j)
    → ((i j : ℕ) → IsMarked new i j ↔ (IsMarked rows i j ⊎ (IsAt waiters x i × IsAt waiters y j))) →
    (i j : ℕ) → IsMarked new i j ↔ AreInPair (take (k + 1) waits) waiters i j
more_rows waits waiters rows new k x y within is old step i j =
    let before = take k waits in
    let p = get_or waits k (0, 0) in
    let whole : take (k + 1) waits ≡ before ++ p ∷ [] = take_more waits k (0, 0) within in
    subst (λ (ws : List (ℕ × ℕ)). IsMarked new i j ↔ AreInPair ws waiters i j) (sym whole) (
      λ marked. elim ((step i j).0 marked) [
        | inl was ↦ let pair = (old i j).0 was in
            (pair.0, pair.1, Contains-append_left before (p ∷ []) (slice_index waiters i, slice_index waiters j) pair.2)
        | inr (at_x, at_y) ↦ (
          at_x.0,
          at_y.0,
          subst (Contains (before ++ p ∷ [])) (sym is ∙ (λ n. (sym at_x.1 n, sym at_y.1 n)))
              (Contains-push before p),
        )
      ],
      λ pair. (step i j).1 (elim (Contains-push_cases before p (slice_index waiters i, slice_index waiters j) pair.2) [
        | inl was ↦ inl ((old i j).1 (pair.0, pair.1, was))
        | inr here ↦
            let same : (slice_index waiters i, slice_index waiters j) ≡ (x, y) = sym here ∙ sym is in
            inr ((pair.0, ap (λ (q : ℕ × ℕ). q.0) same), (pair.1, ap (λ (q : ℕ × ℕ). q.1) same))
      ]),
    )

-- ---- who reaches whom, over those at the first places

pub record Reaching (waits : List (ℕ × ℕ)) (waiters rows : List ℕ) (middle : ℕ) : Type 0 where
  pub sound : (i j : ℕ) → IsMarked rows i j → (i < length waiters) × (j < length waiters)
      × IsWalk waits (slice_index waiters i) (slice_index waiters j)
  pub pairs : (i j : ℕ) → AreInPair waits waiters i j → IsMarked rows i j
  pub over : (a : ℕ) → a < middle → (i j : ℕ) → IsMarked rows i a → IsMarked rows a j → IsMarked rows i j

pub reaching_start : (waits : List (ℕ × ℕ)) (waiters rows : List ℕ)
    → ((i j : ℕ) → IsMarked rows i j ↔ AreInPair waits waiters i j) → Reaching waits waiters rows 0
reaching_start waits waiters rows is = record {
  sound = λ i j marked. let pair = (is i j).0 marked in
      (pair.0, pair.1, walk_pair waits (slice_index waiters i) (slice_index waiters j) pair.2);
  pairs = λ i j pair. (is i j).1 pair;
  over = λ a below i j to from. absurd (omega arith);
}

sound_more : (waits : List (ℕ × ℕ)) (waiters rows : List ℕ) (middle : ℕ) → Reaching waits waiters rows middle
    → (i j : ℕ) → IsMarked (rows_over rows middle) i j →
    (i < length waiters) × (j < length waiters) × IsWalk waits (slice_index waiters i) (slice_index waiters j)
sound_more waits waiters rows middle h i j marked =
    elim (mark_over rows middle i j marked) [
      | inl old ↦ h.sound i j old
      | inr (to, from) ↦
          let left = h.sound i middle to in
          let right = h.sound middle j from in (
            left.0,
            right.1,
            walk_on waits (slice_index waiters i) (slice_index waiters middle) (slice_index waiters j)
                left.2 right.2,
          )
    ]

-- over one that came before the middle
over_earlier : (waits : List (ℕ × ℕ)) (waiters rows : List ℕ) (middle : ℕ) → Reaching waits waiters rows middle
    → (a : ℕ) → a < middle → (i j : ℕ) →
    IsMarked (rows_over rows middle) i a → IsMarked (rows_over rows middle) a j → IsMarked (rows_over rows middle) i j
over_earlier waits waiters rows middle h a below i j to from =
    elim (mark_over rows middle i a to) [
      | inl near ↦ elim (mark_over rows middle a j from) [
        | inl far ↦ mark_kept rows middle i j (h.over a below i j near far)
        | inr (up, down) ↦ mark_made rows middle i j (h.over a below i middle near up) down
      ]
      | inr (up, down) ↦ elim (mark_over rows middle a j from) [
        | inl far ↦ mark_made rows middle i j up (h.over a below middle j down far)
        | inr (_, last) ↦ mark_made rows middle i j up last
      ]
    ]

over_middle : (rows : List ℕ) (middle i j : ℕ) → IsMarked (rows_over rows middle) i middle
    → IsMarked (rows_over rows middle) middle j → IsMarked (rows_over rows middle) i j
over_middle rows middle i j to from =
    let up : IsMarked rows i middle =
    elim (mark_over rows middle i middle to) [ inl near ↦ near | inr (first, _) ↦ first ] in
    let down : IsMarked rows middle j =
    elim (mark_over rows middle middle j from) [ inl far ↦ far | inr (_, last) ↦ last ] in
    mark_made rows middle i j up down

pub reaching_more : (waits : List (ℕ × ℕ)) (waiters rows : List ℕ) (middle : ℕ) → Reaching waits waiters rows middle
    → Reaching waits waiters (rows_over rows middle) (middle + 1)
reaching_more waits waiters rows middle h = record {
  sound = sound_more waits waiters rows middle h;
  pairs = λ i j pair. mark_kept rows middle i j (h.pairs i j pair);
  over = λ a below i j to from. elim (cases_lt a middle) [
    | inl before ↦ over_earlier waits waiters rows middle h a before i j to from
    | inr last ↦
        let here : a ≡ middle = omega arith in
        over_middle rows middle i j (subst (IsMarked (rows_over rows middle) i) here to)
        (subst (λ (k : ℕ). IsMarked (rows_over rows middle) k j) here from)
  ];
}

place : (xs : List ℕ) (x : ℕ) → Contains xs x → (i : ℕ) × IsAt xs x i
place xs x (k, within, e) = (k, (within, get_or_default xs k 0 x within ∙ e))

complete : (waits : List (ℕ × ℕ)) (waiters rows : List ℕ) → AreWaiters waits waiters
    → Reaching waits waiters rows (length waiters) →
    (xs : List ℕ) (i j : ℕ) → i < length waiters → j < length waiters
    → Linked waits (slice_index waiters i ∷ xs) (slice_index waiters j) → IsMarked rows i j
complete waits waiters rows are h [] i j in_i in_j linked =
    h.pairs i j (in_i, in_j, All-head (Contains waits) (slice_index waiters i, slice_index waiters j) [] linked)
complete waits waiters rows are h (y ∷ ys) i j in_i in_j linked =
    let x = slice_index waiters i in
    let z = slice_index waiters j in
    let first : Contains waits (x, y) = All-head (Contains waits) (x, y) (links_to (y ∷ ys) z) linked in
    let rest : Linked waits (y ∷ ys) z = All-tail (Contains waits) (x, y) (links_to (y ∷ ys) z) linked in
    let next = next_of waits (y ∷ ys) z y rest (0, omega arith, refl) in
    let at = place waiters y (All-contains (λ p. Contains waiters p.0) waits (y, next.0) are.all next.1) in
    let is = sym at.1.1 in
    h.over at.0 at.1.0 i j
    (h.pairs i at.0 (in_i, at.1.0, subst (λ (v : ℕ). Contains waits (x, v)) is first))
    (complete waits waiters rows are h ys at.0 j at.1.0 in_j (subst (λ (v : ℕ). Linked waits (v ∷ ys) z) is rest))

pub reaching_end : (waits : List (ℕ × ℕ)) (waiters rows : List ℕ) → AreWaiters waits waiters
    → Reaching waits waiters rows (length waiters) →
    (i j : ℕ) → i < length waiters → j < length waiters
    → IsMarked rows i j ↔ IsWalk waits (slice_index waiters i) (slice_index waiters j)
reaching_end waits waiters rows are h i j in_i in_j =
    (λ marked. (h.sound i j marked).2, λ walk. complete waits waiters rows are h walk.0 i j in_i in_j walk.1)

-- ---- the greatest that stands in a cycle

-- the greatest in a cycle of those at the first places
abbrev pub GreatestUpto : List (ℕ × ℕ) → List ℕ → ℕ → Option ℕ → Type 0
GreatestUpto waits xs i None = (k : ℕ) → k < i → ¬ IsOnCycle waits (slice_index xs k)
GreatestUpto waits xs i (Some w) =
    IsOnCycle waits w × ((k : ℕ) → k < i → IsOnCycle waits (slice_index xs k) → slice_index xs k ≤ w)

pub greatest_more : (waits : List (ℕ × ℕ)) (xs : List ℕ) (i : ℕ) (o : Option ℕ) → IsOnCycle waits (slice_index xs i)
    → GreatestUpto waits xs i o → GreatestUpto waits xs (i + 1) (greater o (Some (slice_index xs i)))
greatest_more waits xs i None found_cycle none = (
  found_cycle,
  λ k below inside. elim (cases_lt k i) [
    | inl before ↦ absurd (none k before inside)
    | inr last ↦ let here : k ≡ i = omega arith in last_upto xs k i here
  ],
)
  where
    last_upto : (xs : List ℕ) (k i : ℕ) → k ≡ i → slice_index xs k ≤ slice_index xs i
    last_upto xs k i same = omega (arith, ap (slice_index xs) same)
greatest_more waits xs i (Some w) found_cycle (found, greatest) =
    let x = slice_index xs i in
    let upto : (k : ℕ) → k < i + 1 → IsOnCycle waits (slice_index xs k) → slice_index xs k ≤ max w x =
    λ k below inside. elim (cases_lt k i) [
      | inl before ↦ omega (arith, greatest k before inside)
      | inr last ↦ let here : k ≡ i = omega arith in omega (arith, ap (slice_index xs) here)
    ] in
    elim (cases_lt w x) [
      | inl less ↦ let is : max w x ≡ x = omega arith in (subst (IsOnCycle waits) (sym is) found_cycle, upto)
      | inr more ↦ let is : max w x ≡ w = omega arith in (subst (IsOnCycle waits) (sym is) found, upto)
    ]

pub greatest_same : (waits : List (ℕ × ℕ)) (xs : List ℕ) (i : ℕ) (o : Option ℕ) → ¬ IsOnCycle waits (slice_index xs i)
    → GreatestUpto waits xs i o → GreatestUpto waits xs (i + 1) o
greatest_same waits xs i None apart none = λ k below inside. elim (cases_lt k i) [
  | inl before ↦ none k before inside
  | inr last ↦ let here : k ≡ i = omega arith in
      apart (subst (λ (m : ℕ). IsOnCycle waits (slice_index xs m)) here inside)
]
greatest_same waits xs i (Some w) apart (found, greatest) = (
  found,
  λ k below inside. elim (cases_lt k i) [
    | inl before ↦ greatest k before inside
    | inr last ↦ let here : k ≡ i = omega arith in
        absurd (apart (subst (λ (m : ℕ). IsOnCycle waits (slice_index xs m)) here inside))
  ],
)

-- who stands in a cycle has a place among those who wait
pub on_cycle_place : (waits : List (ℕ × ℕ)) (waiters : List ℕ) (x : ℕ) → AreWaiters waits waiters → IsOnCycle waits x
    → (i : ℕ) × IsAt waiters x i
on_cycle_place waits waiters x are found_cycle =
    place waiters x (waiting waits waiters x are.all (on_cycle_waiter waits x found_cycle))
  where
    waiting : (waits : List (ℕ × ℕ)) (waiters : List ℕ) (x : ℕ) → All (λ (p : ℕ × ℕ). Contains waiters p.0) waits
        → Contains (waiters_of waits) x → Contains waiters x
    waiting [] waiters x all (k, within, e) = absurd (omega arith)
    waiting (p ∷ waits) waiters x all (zero, within, e) =
        subst (Contains waiters) e (All-head (λ (q : ℕ × ℕ). Contains waiters q.0) p waits all)
    waiting (p ∷ waits) waiters x all (suc k, within, e) =
        waiting waits waiters x (All-tail (λ (q : ℕ × ℕ). Contains waiters q.0) p waits all) (k, omega arith, e)

pub greatest_of_all : (waits : List (ℕ × ℕ)) (waiters : List ℕ) (i : ℕ) (o : Option ℕ) → AreWaiters waits waiters
    → length waiters ≤ i → GreatestUpto waits waiters i o →
    IfSome o (λ w. (x : ℕ) → IsOnCycle waits x → x ≤ w)
greatest_of_all waits waiters i None are past h = tt
greatest_of_all waits waiters i (Some w) are past (found, greatest) = λ x found_cycle.
    let at = on_cycle_place waits waiters x are found_cycle in
    subst (λ (v : ℕ). v ≤ w) at.1.1
    (greatest at.0 (omega (arith, at.1.0)) (subst (IsOnCycle waits) (sym at.1.1) found_cycle))

pub none_of_all : (waits : List (ℕ × ℕ)) (waiters : List ℕ) (i : ℕ) (o : Option ℕ) → AreWaiters waits waiters
    → length waiters ≤ i → GreatestUpto waits waiters i o →
    IsNone o → (x : ℕ) → ¬ IsOnCycle waits x
none_of_all waits waiters i None are past none = λ _ x found_cycle.
    let at = on_cycle_place waits waiters x are found_cycle in
    none at.0 (omega (arith, at.1.0)) (subst (IsOnCycle waits) (sym at.1.1) found_cycle)
none_of_all waits waiters i (Some w) are past h = λ nothing. absurd (true≢false nothing)
