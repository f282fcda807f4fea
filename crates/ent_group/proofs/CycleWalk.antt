-- OnCycles of pairs, and the search for one.
use Rattle.std.proofs.Common.{◌≡◌, ◌≢◌, ℕ, zero, suc, ◌+◌, ◌<◌, ◌≤◌, ◌⊎◌, inl, inr, List, [], ◌∷◌, ◌++◌}
use Rattle.std.proofs.Common.{length, map, take, get_or, refl, sym, ap, subst, ◌∙◌, arith}
use Rattle.std.specs.Prelude.{All, AllPairs, Contains, slice_index, slice_get, Option, None, Some, IfSome}
use Rattle.std.specs.Prelude.{IsNone, unwrap_or}
use Rattle.std.proofs.lemmas.Bool.{eqb-true, cases_lt}
use Rattle.std.proofs.lemmas.Bool.Decides.{Decides-eqb}
use Rattle.std.proofs.lemmas.Cmp.{nat_eq_equiv}
use Rattle.std.proofs.lemmas.List.{length-map, length-append, length-take, get_or-take, get_or_push, get_or_append_left}
use Rattle.std.proofs.lemmas.List.{get_or_default}
use Rattle.std.proofs.lemmas.Option.{slice_get-get_or}
use Rattle.std.proofs.lemmas.List.Quantifiers.{all_pairs_push}
use Rattle.std.proofs.lemmas.List.Elements.{All-head, All-tail, All-cons, All-contains, All-push, All-more, All-weaker}
use Rattle.std.proofs.lemmas.List.Elements.{All-nil, All-contains_itself, Contains-append_left, Contains-append_right}
use Rattle.std.proofs.lemmas.List.Elements.{Contains-get_or, Contains-push}
use Rattle.std.proofs.lemmas.Map.Made.{IsDistinct-from_AllPairs, length-le_from_is_member}
use Rattle.std.proofs.lemmas.Map.Views.{Contains-from_any, list_any-from_Contains}
use Rattle.ent_group.specs.Cycle.{NamesAtMost, waiters_of, links_to, Closes, IsCycle, IsOnCycle}
use Rattle.ent_group.specs.Reach.{IsReach, IsClosed}

-- ---- distinct numbers among others are no more than those

pub no_more : (xs names : List ℕ) → AllPairs (λ x y. x ≢ y) xs → All (Contains names) xs → length xs ≤ length names
no_more xs names distinct inside =
    length-le_from_is_member nat_eq_equiv xs names (IsDistinct-from_AllPairs Decides-eqb xs distinct)
    (λ q there. list_any-from_Contains nat_eq_equiv q names
    (All-contains (Contains names) xs q inside (Contains-from_any eqb-true q xs there)))

-- ---- waiters

pub waiter : (waits : List (ℕ × ℕ)) (x y : ℕ) → Contains waits (x, y) → Contains (waiters_of waits) x
waiter [] x y (k, within, e) = absurd (omega arith)
waiter (p ∷ waits) x y (zero, within, e) = (0, omega arith, ap (λ (q : ℕ × ℕ). q.0) e)
waiter (p ∷ waits) x y (suc k, within, e) =
    Contains-append_right (p.0 ∷ []) (waiters_of waits) x (waiter waits x y (k, omega arith, e))

pub named_waiter : (names : List ℕ) (waits : List (ℕ × ℕ)) → All (λ p. Contains names p.0 × Contains names p.1) waits
    → (x : ℕ) → Contains (waiters_of waits) x → Contains names x
named_waiter names [] named x (k, within, e) = absurd (omega arith)
named_waiter names (p ∷ waits) named x (zero, within, e) =
    subst (Contains names) e (All-head (λ q. Contains names q.0 × Contains names q.1) p waits named).0
named_waiter names (p ∷ waits) named x (suc k, within, e) = named_waiter names waits
    (All-tail (λ q. Contains names q.0 × Contains names q.1) p waits named) x (k, omega arith, e)

awaited : (waits : List (ℕ × ℕ)) (x y : ℕ) → Contains waits (x, y) → Contains (map (λ (p : ℕ × ℕ). p.1) waits) y
awaited [] x y (k, within, e) = absurd (omega arith)
awaited (p ∷ waits) x y (zero, within, e) = (0, omega arith, ap (λ (q : ℕ × ℕ). q.1) e)
awaited (p ∷ waits) x y (suc k, within, e) =
    Contains-append_right (p.1 ∷ []) (map (λ (q : ℕ × ℕ). q.1) waits) y (awaited waits x y (k, omega arith, e))

-- n pairs name at most twice as many numbers
pub few_pairs : (waits : List (ℕ × ℕ)) (n : ℕ) → length waits + length waits ≤ n → NamesAtMost n waits
few_pairs waits n few =
    let seconds = map (λ (p : ℕ × ℕ). p.1) waits in (
      waiters_of waits ++ seconds,
      omega (
        arith,
        length-append (waiters_of waits) seconds,
        length-map waits (λ (p : ℕ × ℕ). p.0),
        length-map waits
            (λ (p : ℕ × ℕ). p.1),
      ),
      All-weaker (Contains waits)
          (λ p. Contains (waiters_of waits ++ seconds) p.0 × Contains (waiters_of waits ++ seconds) p.1)
          (λ p there. (
            Contains-append_left (waiters_of waits) seconds p.0 (waiter waits p.0 p.1 there),
            Contains-append_right (waiters_of waits) seconds p.1 (awaited waits p.0 p.1 there),
          ))
          waits (All-contains_itself waits),
    )

-- ---- links

abbrev Linked : List (ℕ × ℕ) → List ℕ → ℕ → Type 0
Linked waits xs end = All (Contains waits) (links_to xs end)

-- all of a chain of waits that leads to one of a closed set are in it
pub closed_all : (waits : List (ℕ × ℕ)) (reached : List ℕ) → IsClosed waits reached → (xs : List ℕ) (end : ℕ)
    → Linked waits xs end → Contains reached end → All (Contains reached) xs
closed_all waits reached closed [] end linked there = All-nil (Contains reached)
closed_all waits reached closed (x ∷ []) end linked there =
    let first : Contains waits (x, end) = All-head (Contains waits) (x, end) [] linked in
    All-cons (Contains reached) x []
    (All-contains (λ p. Contains reached p.1 → Contains reached p.0) waits (x, end) closed first there)
    (All-nil (Contains reached))
closed_all waits reached closed (x ∷ y ∷ xs) end linked there =
    let first : Contains waits (x, y) = All-head (Contains waits) (x, y) (links_to (y ∷ xs) end) linked in
    let rest : All (Contains reached) (y ∷ xs) = closed_all waits reached closed (y ∷ xs) end
    (All-tail (Contains waits) (x, y) (links_to (y ∷ xs) end) linked) there in
    All-cons (Contains reached) x (y ∷ xs)
    (All-contains (λ p. Contains reached p.1 → Contains reached p.0) waits (x, y) closed first
    (All-head (Contains reached) y xs rest)) rest

-- where one of a chain is in a closed set, so is its first
pub front_in : (waits : List (ℕ × ℕ)) (reached : List ℕ) → IsClosed waits reached → (x : ℕ) (xs : List ℕ) (end f : ℕ)
    → Linked waits (x ∷ xs) end → Contains (x ∷ xs) f → Contains reached f → Contains reached x
front_in waits reached closed x xs end f linked (zero, within, e) there = subst (Contains reached) (sym e) there
front_in waits reached closed x [] end f linked (suc k, within, e) there = absurd (omega arith)
front_in waits reached closed x (y ∷ xs) end f linked (suc k, within, e) there =
    let first : Contains waits (x, y) = All-head (Contains waits) (x, y) (links_to (y ∷ xs) end) linked in
    All-contains (λ p. Contains reached p.1 → Contains reached p.0) waits (x, y) closed first
    (front_in waits reached closed y xs end f (All-tail (Contains waits) (x, y) (links_to (y ∷ xs) end) linked)
    (k, omega arith, e) there)

-- whom one of a chain waits for
pub next_of : (waits : List (ℕ × ℕ)) (xs : List ℕ) (end f : ℕ) → Linked waits xs end → Contains xs f
    → (y : ℕ) × Contains waits (f, y) × (Contains xs y ⊎ (y ≡ end))
next_of waits [] end f linked (k, within, e) = absurd (omega arith)
next_of waits (x ∷ []) end f linked (zero, within, e) =
    (end, subst (λ (v : ℕ). Contains waits (v, end)) e (All-head (Contains waits) (x, end) [] linked), inr refl)
next_of waits (x ∷ []) end f linked (suc k, within, e) = absurd (omega arith)
next_of waits (x ∷ y ∷ xs) end f linked (zero, within, e) = (
  y,
  subst (λ (v : ℕ). Contains waits (v, y)) e (All-head (Contains waits) (x, y) (links_to (y ∷ xs) end) linked),
  inl (1, omega arith, refl),
)
next_of waits (x ∷ y ∷ xs) end f linked (suc k, within, e) =
    let later = next_of waits (y ∷ xs) end f (All-tail (Contains waits) (x, y) (links_to (y ∷ xs) end) linked)
    (k, omega arith, e) in (
      later.0,
      later.1,
      elim later.2 [
        | inl inside ↦ inl (Contains-append_right (x ∷ []) (y ∷ xs) later.0 inside)
        | inr last ↦ inr last
      ],
    )

-- one of a cycle waits for one of a closed set that it is in
pub on_cycle_next : (waits : List (ℕ × ℕ)) (reached : List ℕ) → IsClosed waits reached → (members : List ℕ) (f : ℕ)
    → Closes waits members → Contains members f → Contains reached f
    → (y : ℕ) × Contains waits (f, y) × Contains reached y
on_cycle_next waits reached closed [] f found_cycle inside there = absurd (omega (arith, found_cycle.not_empty))
on_cycle_next waits reached closed (x ∷ xs) f found_cycle inside there =
    let front : Contains reached x = front_in waits reached closed x xs x f found_cycle.linked inside there in
    let all : All (Contains reached) (x ∷ xs) = closed_all waits reached closed (x ∷ xs) x found_cycle.linked front in
    let next = next_of waits (x ∷ xs) x f found_cycle.linked inside in (
      next.0,
      next.1,
      elim next.2 [
        | inl later ↦ All-contains (Contains reached) (x ∷ xs) next.0 all later
        | inr last ↦ subst (Contains reached) (sym last) front
      ],
    )

-- one of a cycle waits
pub on_cycle_waiter : (waits : List (ℕ × ℕ)) (x : ℕ) → IsOnCycle waits x → Contains (waiters_of waits) x
on_cycle_waiter waits x ([], found_cycle, inside) = absurd (omega (arith, found_cycle.not_empty))
on_cycle_waiter waits x (m ∷ ms, found_cycle, inside) =
    let next = next_of waits (m ∷ ms) m x found_cycle.linked inside in
    waiter waits x next.0 next.1

-- ---- the search

at_place : (reached : List ℕ) (k x : ℕ) → k < length reached → get_or reached k x ≡ x → slice_index reached k ≡ x
at_place reached k x within e = get_or_default reached k 0 x within ∙ e

-- distinct numbers that wait are few, and so there is room for one more
pub few_waiters : (waits : List (ℕ × ℕ)) (xs : List ℕ) → NamesAtMost 64 waits → AllPairs (λ x y. x ≢ y) xs
    → All (Contains (waiters_of waits)) xs → length xs ≤ 64
few_waiters waits xs (names, few, named) distinct waiters =
    let bound : length xs ≤ length names = no_more xs names distinct
    (All-weaker (Contains (waiters_of waits)) (Contains names) (named_waiter names waits named) xs waiters) in
    omega (arith, bound, few)

distinct_more : (xs : List ℕ) (x : ℕ) → AllPairs (λ a b. a ≢ b) xs → ¬ Contains xs x
    → AllPairs (λ a b. a ≢ b) (xs ++ x ∷ [])
distinct_more xs x distinct absent = all_pairs_push (λ a b. a ≢ b) xs x distinct
    (λ k d within same. absent (subst (Contains xs) same (Contains-get_or xs k d within)))

pub room_more : (waits : List (ℕ × ℕ)) (xs : List ℕ) (x y : ℕ) → NamesAtMost 64 waits → AllPairs (λ x y. x ≢ y) xs
    → All (Contains (waiters_of waits)) xs → Contains waits (x, y) → ¬ Contains xs x → length xs < 64
room_more waits xs x y names distinct waiters there absent =
    let bound = few_waiters waits (xs ++ x ∷ []) names (distinct_more xs x distinct absent)
    (All-push (Contains (waiters_of waits)) xs x waiters (waiter waits x y there)) in
    omega (arith, length-append xs (x ∷ []), bound)

-- each of those who wait in the pairs up to a place, once
pub record Waiting (waits : List (ℕ × ℕ)) (xs : List ℕ) (i : ℕ) : Type 0 where
  pub distinct : AllPairs (λ x y. x ≢ y) xs
  pub each : All (Contains (waiters_of waits)) xs
  pub all : All (λ p. Contains xs p.0) (take i waits)

pub waiting_start : (waits : List (ℕ × ℕ)) → Waiting waits [] 0
waiting_start waits = record {
  distinct = λ i j d below within. absurd (omega arith);
  each = All-nil (Contains (waiters_of waits));
  all = All-nil (λ q. Contains [] q.0);
}

pub waiting_more : (waits : List (ℕ × ℕ)) (xs : List ℕ) (i : ℕ) → Waiting waits xs i → i < length waits
    → ¬ Contains xs (get_or waits i (0, 0)).0 → Waiting waits (xs ++ (get_or waits i (0, 0)).0 ∷ []) (i + 1)
waiting_more waits xs i h within absent =
    let p = get_or waits i (0, 0) in
    let more : List ℕ = xs ++ p.0 ∷ [] in
    record {
      distinct = distinct_more xs p.0 h.distinct absent;
      each = All-push (Contains (waiters_of waits)) xs p.0 h.each
          (waiter waits p.0 p.1 (Contains-get_or waits i (0, 0) within));
      all = All-more (λ q. Contains more q.0) waits i (0, 0) within
          (All-weaker (λ q. Contains xs q.0) (λ q. Contains more q.0)
          (λ q there. Contains-append_left xs (p.0 ∷ []) q.0 there) (take i waits) h.all) (Contains-push xs p.0);
    }

pub waiting_same : (waits : List (ℕ × ℕ)) (xs : List ℕ) (i : ℕ) → Waiting waits xs i → i < length waits
    → Contains xs (get_or waits i (0, 0)).0 → Waiting waits xs (i + 1)
waiting_same waits xs i h within there = record {
  distinct = h.distinct;
  each = h.each;
  all = All-more (λ q. Contains xs q.0) waits i (0, 0) within h.all there;
}

led_more : (waits : List (ℕ × ℕ)) (reached : List ℕ) (x y : ℕ) → IsReach waits reached → Contains waits (x, y)
    → Contains reached y → (i : ℕ) → 0 < i → i < length (reached ++ x ∷ []) →
    (j : ℕ) × (j < i) × Contains waits (slice_index (reached ++ x ∷ []) i, slice_index (reached ++ x ∷ []) j)
led_more waits reached x y reach there (k, within, e) i above below =
    let long = length-append reached (x ∷ []) in
    elim (cases_lt i (length reached)) [
      | inl old ↦
          let led = reach.led i above old in (
            led.0,
            led.1,
            subst (λ (q : ℕ × ℕ). Contains waits q)
                (λ n. (
                  sym (get_or_append_left reached (x ∷ []) 0 i old) n,
                  sym
                      (get_or_append_left reached (x ∷ []) 0 led.0 (omega (arith, led.1, old))) n,
                )) led.2,
          )
      | inr new ↦
          let last : length reached ≡ i = omega (arith, long, new, below) in (
            k,
            omega (arith, within, last),
            subst (λ (q : ℕ × ℕ). Contains waits q)
                (λ n. (
                  sym (get_or_push reached x 0 i last) n,
                  sym
                      (get_or_append_left reached (x ∷ []) 0 k within ∙ at_place reached k y within e) n,
                )) there,
          )
    ]

pub reach_more : (waits : List (ℕ × ℕ)) (reached : List ℕ) (x y : ℕ) → IsReach waits reached → Contains waits (x, y)
    → Contains reached y → ¬ Contains reached x → IsReach waits (reached ++ x ∷ [])
reach_more waits reached x y reach there inside absent = record {
  not_empty = omega (arith, length-append reached (x ∷ []));
  distinct = distinct_more reached x reach.distinct absent;
  waiters = All-push (Contains (waiters_of waits)) reached x reach.waiters (waiter waits x y there);
  led = led_more waits reached x y reach there inside;
}

-- a pass over the pairs has come to place i: those so far who wait for one are among those reached
pub record Extending (waits : List (ℕ × ℕ)) (old reached : List ℕ) (awaited i : ℕ) : Type 0 where
  pub reach : IsReach waits reached
  pub kept : (k : ℕ) → k < length old → slice_index reached k ≡ slice_index old k
  pub longer : length old ≤ length reached
  pub inside : Contains reached awaited
  pub all : All (λ p. p.1 ≡ awaited → Contains reached p.0) (take i waits)

pub extending_start : (waits : List (ℕ × ℕ)) (reached : List ℕ) (awaited : ℕ) → IsReach waits reached
    → Contains reached awaited → Extending waits reached reached awaited 0
extending_start waits reached awaited reach inside = record {
  reach = reach;
  kept = λ k within. refl;
  longer = omega arith;
  inside = inside;
  all = All-nil (λ p. p.1 ≡ awaited → Contains reached p.0);
}

pub extending_more : (waits : List (ℕ × ℕ)) (old reached : List ℕ) (awaited i x y : ℕ)
    → Extending waits old reached awaited i → i < length waits → get_or waits i (0, 0) ≡ (x, y) → y ≡ awaited
    → ¬ Contains reached x →
    Extending waits old (reached ++ x ∷ []) awaited (i + 1)
extending_more waits old reached awaited i x y h within is same absent =
    let there : Contains waits (x, y) = subst (Contains waits) is (Contains-get_or waits i (0, 0) within) in
    let more : List ℕ = reached ++ x ∷ [] in
    record {
      reach = reach_more waits reached x y h.reach there (subst (Contains reached) (sym same) h.inside) absent;
      kept = λ k below. get_or_append_left reached (x ∷ []) 0 k (omega (arith, below, h.longer)) ∙ h.kept k below;
      longer = omega (arith, length-append reached (x ∷ []), h.longer);
      inside = Contains-append_left reached (x ∷ []) awaited h.inside;
      all = All-more (λ p. p.1 ≡ awaited → Contains more p.0) waits i (0, 0) within
          (All-weaker (λ p. p.1 ≡ awaited → Contains reached p.0) (λ p. p.1 ≡ awaited → Contains more p.0)
          (λ p old waiting. Contains-append_left reached (x ∷ []) p.0 (old waiting)) (take i waits) h.all)
          (λ _. subst (λ (q : ℕ × ℕ). Contains more q.0) (sym is) (Contains-push reached x));
    }

pub extending_same : (waits : List (ℕ × ℕ)) (old reached : List ℕ) (awaited i : ℕ)
    → Extending waits old reached awaited i → i < length waits →
    ((get_or waits i (0, 0)).1 ≡ awaited → Contains reached (get_or waits i (0, 0)).0)
    → Extending waits old reached awaited (i + 1)
extending_same waits old reached awaited i h within here = record {
  reach = h.reach;
  kept = h.kept;
  longer = h.longer;
  inside = h.inside;
  all = All-more (λ p. p.1 ≡ awaited → Contains reached p.0) waits i (0, 0) within h.all here;
}

-- whoever waits for one of those reached at the first places is reached
pub record Searching (waits : List (ℕ × ℕ)) (first : ℕ) (reached : List ℕ) (next : ℕ) : Type 0 where
  pub reach : IsReach waits reached
  pub begins : slice_index reached 0 ≡ first
  pub place : next ≤ length reached
  pub all : (k : ℕ) → k < next → All (λ p. p.1 ≡ slice_index reached k → Contains reached p.0) waits

pub searching_start : (waits : List (ℕ × ℕ)) (first : ℕ) → Contains (waiters_of waits) first
    → Searching waits first (first ∷ []) 0
searching_start waits first waiting = record {
  reach = record {
    not_empty = omega arith;
    distinct = λ i j d below within. absurd (omega arith);
    waiters = All-cons (Contains (waiters_of waits)) first [] waiting (All-nil (Contains (waiters_of waits)));
    led = λ i above within. absurd (omega arith);
  };
  begins = refl;
  place = omega arith;
  all = λ k below. absurd (omega arith);
}

still_inside : (old new : List ℕ) → ((k : ℕ) → k < length old → slice_index new k ≡ slice_index old k)
    → length old ≤ length new → (x : ℕ) → Contains old x → Contains new x
still_inside old new kept longer x (k, within, e) =
    let in_new : k < length new = omega arith in
    (k, in_new, get_or_default new k x 0 in_new ∙ kept k within ∙ at_place old k x within e)

pub searching_more : (waits : List (ℕ × ℕ)) (first : ℕ) (old new : List ℕ) (next awaited : ℕ)
    → Searching waits first old next → next < length old → slice_index old next ≡ awaited → IsReach waits new →
    ((k : ℕ) → k < length old → slice_index new k ≡ slice_index old k) → length old ≤ length new
    → All (λ p. p.1 ≡ awaited → Contains new p.0) waits → Searching waits first new (next + 1)
searching_more waits first old new next awaited h within is reach kept longer all = record {
  reach = reach;
  begins = kept 0 h.reach.not_empty ∙ h.begins;
  place = omega arith;
  all = λ k below. elim (cases_lt k next) [
    | inl before ↦
        let in_old : k < length old = omega (arith, h.place) in
        All-weaker (λ p. p.1 ≡ slice_index old k → Contains old p.0) (λ p. p.1 ≡ slice_index new k → Contains new p.0)
        (λ p was waiting. still_inside old new kept longer p.0 (was (waiting ∙ kept k in_old))) waits (h.all k before)
    | inr last ↦
        let here : k ≡ next = omega arith in
        let same : slice_index new k ≡ awaited = ap (slice_index new) here ∙ kept next within ∙ is in
        All-weaker (λ p. p.1 ≡ awaited → Contains new p.0) (λ p. p.1 ≡ slice_index new k → Contains new p.0)
        (λ p was waiting. was (waiting ∙ same)) waits all
  ];
}

pub past_end : (xs : List ℕ) (n : ℕ) → slice_get xs n ≡ None → length xs ≤ n
past_end xs n nothing = elim (cases_lt n (length xs)) [
  | inl below ↦ let there : slice_get xs n ≡ Some (get_or xs n 0) = slice_get-get_or xs n 0 below in cc
  | inr past ↦ past
]

pub searching_end : (waits : List (ℕ × ℕ)) (first : ℕ) (reached : List ℕ) (next : ℕ)
    → Searching waits first reached next → length reached ≤ next → IsClosed waits reached
searching_end waits first reached next h done = λ k d within (j, in_reached, e).
    h.all j (omega arith) k d within (sym (at_place reached j (get_or waits k d).1 in_reached e))

-- ---- from the search to the cycle

-- a chain of waits from the first of those reached, each later one farther than the place that it leads to
pub record Closing (waits : List (ℕ × ℕ)) (reached members : List ℕ) (at : ℕ) : Type 0 where
  pub linked : All (Contains waits) (links_to members (slice_index reached at))
  pub begins : slice_index members 0 ≡ slice_index reached 0
  pub some : 0 < length members
  pub distinct : AllPairs (λ x y. x ≢ y) members
  pub later : (k : ℕ) → 0 < k → k < length members → (p : ℕ) × (at < p) × (p < length reached)
      × (slice_index members k ≡ slice_index reached p)
  pub room : length members + at ≤ length reached
  pub place : at < length reached

links_to-push : (m : ℕ) (ms : List ℕ) (y z : ℕ) → links_to ((m ∷ ms) ++ y ∷ []) z ≡ links_to (m ∷ ms) y ++ (y, z) ∷ []
links_to-push m [] y z = refl
links_to-push m (n ∷ ms) y z = ap (λ (qs : List (ℕ × ℕ)). (m, n) ∷ qs) (links_to-push n ms y z)

linked_more : (waits : List (ℕ × ℕ)) (members : List ℕ) (y z : ℕ) → 0 < length members
    → All (Contains waits) (links_to members y) → Contains waits (y, z)
    → All (Contains waits) (links_to (members ++ y ∷ []) z)
linked_more waits [] y z some linked there = absurd (omega arith)
linked_more waits (m ∷ ms) y z some linked there =
    subst (λ (qs : List (ℕ × ℕ)). All (Contains waits) qs) (sym (links_to-push m ms y z))
    (All-push (Contains waits) (links_to (m ∷ ms) y) (y, z) linked there)

pub closing_start : (waits : List (ℕ × ℕ)) (reached : List ℕ) (second : ℕ) → second < length reached
    → Contains waits (slice_index reached 0, slice_index reached second)
    → Closing waits reached (slice_index reached 0 ∷ []) second
closing_start waits reached second within there = record {
  linked = All-cons (Contains waits) (slice_index reached 0, slice_index reached second) [] there
      (All-nil (Contains waits));
  begins = refl;
  some = omega arith;
  distinct = λ i j d below inside. absurd (omega arith);
  later = λ k above inside. absurd (omega arith);
  room = omega arith;
  place = within;
}

apart_in : (reached : List ℕ) → AllPairs (λ x y. x ≢ y) reached → (i j : ℕ) → i < length reached → j < length reached
    → i ≢ j → slice_index reached i ≢ slice_index reached j
apart_in reached distinct i j in_i in_j other same =
    elim (cases_lt i j) [
      | inl below ↦ distinct i j 0 below in_j same
      | inr above ↦ distinct j i 0 (omega arith) in_i (sym same)
    ]

pub closing_more : (waits : List (ℕ × ℕ)) (reached members : List ℕ) (at at' : ℕ) → IsReach waits reached
    → Closing waits reached members at → 0 < at → at' < at →
    Contains waits (slice_index reached at, slice_index reached at')
    → Closing waits reached (members ++ slice_index reached at ∷ []) at'
closing_more waits reached members at at' reach h above below there =
    let y = slice_index reached at in
    let long = length-append members (y ∷ []) in
    record {
      linked = linked_more waits members y (slice_index reached at') h.some h.linked there;
      begins = get_or_append_left members (y ∷ []) 0 0 h.some ∙ h.begins;
      some = omega (arith, long);
      distinct = all_pairs_push (λ a b. a ≢ b) members y h.distinct (λ k d within same.
          let here : slice_index members k ≡ y = get_or_default members k 0 d within ∙ same in
          elim (cases_lt 0 k) [
            | inl later ↦ let far = h.later k later within in
                apart_in reached reach.distinct far.0 at far.2 h.place (omega (arith, far.1)) (sym far.3 ∙ here)
            | inr first ↦ apart_in reached reach.distinct 0 at (omega (arith, h.place)) h.place (omega arith)
                (sym h.begins ∙ ap (slice_index members) (omega arith) ∙ here)
          ]);
      later = λ k positive within. elim (cases_lt k (length members)) [
        | inl old ↦ let far = h.later k positive old in
            (far.0, omega (arith, far.1), far.2, get_or_append_left members (y ∷ []) 0 k old ∙ far.3)
        | inr new ↦ (at, below, h.place, get_or_push members y 0 k (omega (arith, long, new, within)))
      ];
      room = omega (arith, long, h.room);
      place = omega (arith, h.place);
    }

pub closing_end : (waits : List (ℕ × ℕ)) (reached members : List ℕ) → Closing waits reached members 0
    → IsCycle waits members
closing_end waits reached [] h = absurd (omega (arith, h.some))
closing_end waits reached (m ∷ ms) h = record {
  closes = record {
    not_empty = h.some;
    linked = subst (λ (end : ℕ). All (Contains waits) (links_to (m ∷ ms) end))
        (sym h.begins) h.linked;
  };
  distinct = h.distinct;
}

-- ---- a place before another of one that is awaited

pub awaited_place : (waits : List (ℕ × ℕ)) (reached : List ℕ) (w at j : ℕ) (o : Option ℕ) → j < at → at < length reached
    → Contains waits (w, slice_index reached j) →
    IfSome o (λ i. (i < length (take at reached)) × Contains waits (w, slice_index (take at reached) i))
    → (IsNone o → All (λ y. ¬ Contains waits (w, y)) (take at reached)) →
    (unwrap_or o 0 < at) × Contains waits (w, slice_index reached (unwrap_or o 0))
awaited_place waits reached w at j None below within there some none =
    absurd (none refl j 0 (omega (arith, length-take at reached))
    (subst (λ (y : ℕ). Contains waits (w, y)) (sym (get_or-take at reached j 0 below)) there))
awaited_place waits reached w at j (Some i) below within there (inside, awaited) none =
    let before : i < at = omega (arith, length-take at reached) in
    (before, subst (λ (y : ℕ). Contains waits (w, y)) (get_or-take at reached i 0 before) awaited)
