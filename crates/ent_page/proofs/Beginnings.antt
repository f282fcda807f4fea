-- Keys that begin alike stand together.
use Rattle.std.proofs.Common.{◌≡◌, ℕ, ◌+◌, ◌<◌, ◌≤◌, get_or, Bool, true, false, List, [], ◌∷◌, ◌++◌, length, take, drop}
use Rattle.std.proofs.Common.{append-nil, sym, refl, ap, subst, ◌∙◌}
use Rattle.std.specs.Prelude.{Option, Some, None}
use Rattle.std.specs.Prelude.{cond}
use Rattle.std.specs.List.{filter, flat_map, take_while}
use Rattle.std.specs.List.Sorted.{IsStrictlySortedBy}
use Rattle.std.specs.Cmp.{unsigned_Decides}
use Rattle.std.specs.declared.cmp.Ordering.TheVariants.{Less, Greater}
use Rattle.std.proofs.lemmas.List.{drop_more}
use Rattle.std.proofs.lemmas.List.Elements.{filter-append}
use Rattle.std.proofs.lemmas.List.Sums.{take_while-cons}
use Rattle.std.proofs.lemmas.Slice.Eq.{starts_is}
use Rattle.ent_page.specs.Key.{key_cmp}
use Rattle.ent_page.specs.Paged.{AllBelow, AllAbove, keys_left}
use Rattle.ent_page.specs.Layout.{Ascends, AreBelow, AreAbove}
use Rattle.ent_page.specs.Front.{begins_with, has_front, beginning_so, NoneBelow, StartsAt}
use Rattle.ent_lists.specs.Elements.{from_here}
use Rattle.ent_page.proofs.Fronts.{same_front, other_front}
use Rattle.ent_page.proofs.Sorted.{flip_less, sorted_back, sorted_below, sorted_above, ascends}
use Rattle.ent_page.proofs.Paging.{page_sorted, found_at, gap_at, gap_below, gap_above}

-- ---- one key of a walk

pub goes_on : (front : Option (List ℕ)) (key : List ℕ) (keys : List (List ℕ)) → has_front front key ≡ true
    → beginning_so front (key ∷ keys) ≡ key ∷ beginning_so front keys
goes_on None key keys e = refl
goes_on (Some front) key keys e = take_while-cons (begins_with front) key keys
    ∙ ap (λ b. cond b (key ∷ take_while (begins_with front) keys) []) e

pub stops : (front : Option (List ℕ)) (key : List ℕ) (keys : List (List ℕ)) → has_front front key ≡ false
    → beginning_so front (key ∷ keys) ≡ []
stops None key keys e = cc
stops (Some front) key keys e = take_while-cons (begins_with front) key keys
    ∙ ap (λ b. cond b (key ∷ take_while (begins_with front) keys) []) e

-- ---- keys in order

begins : (front key : List ℕ) → begins_with front key ≡ true → (rest : List ℕ) × (key ≡ front ++ rest)
begins front key e = (_, (starts_is unsigned_Decides key front (begins_with front key) refl).0 e)

begun : (front key rest : List ℕ) → key ≡ front ++ rest → begins_with front key ≡ true
begun front key rest e = (starts_is unsigned_Decides key front (begins_with front key) refl).1 rest e

after_front : (front rest : List ℕ) → key_cmp (front ++ rest) front ≡ Less → ⊥
after_front front rest e = by rest (ap (key_cmp (front ++ rest)) (append-nil front) ∙ e)
  where
    by : (rest : List ℕ) → key_cmp (front ++ rest) (front ++ []) ≡ Less → ⊥
    by [] e = let f : key_cmp [] [] ≡ Less = sym (same_front front [] []) ∙ e in cc
    by (b ∷ rest) e = let f : key_cmp (b ∷ rest) [] ≡ Less = sym (same_front front (b ∷ rest) []) ∙ e in cc

-- a key below the front doesn't begin so
below_none : (front : List ℕ) (keys : List (List ℕ)) → AllBelow keys front → filter (begins_with front) keys ≡ []
below_none front [] h = refl
below_none front (k ∷ keys) h = by (begins_with front k) refl (below_none front keys h.1)
  where
    by : (b : Bool) → begins_with front k ≡ b → filter (begins_with front) keys ≡ []
        → filter (begins_with front) (k ∷ keys) ≡ []
    by true e later =
        let start = begins front k e in
        absurd (after_front front start.0 (ap (λ z. key_cmp z front) (sym start.1) ∙ h.0))
    by false e later = ap (λ b. cond b (k ∷ filter (begins_with front) keys) (filter (begins_with front) keys)) e
        ∙ later

-- nor does one behind a key that is not below the front and doesn't begin so
past_all : (front key other : List ℕ) → (key_cmp key front ≡ Less → ⊥) → begins_with front key ≡ false
    → key_cmp key other ≡ Less → begins_with front other ≡ false
past_all front key other not_below none less = by (begins_with front other) refl
  where
    no_front : (rest : List ℕ) → key ≡ front ++ rest → ⊥
    no_front rest e = let f : true ≡ false = sym (begun front key rest e) ∙ none in cc

    by : (b : Bool) → begins_with front other ≡ b → b ≡ false
    by false e = refl
    by true e =
        let start = begins front other e in
        let same : key_cmp key front ≡ Less = sym (other_front key front start.0 no_front)
        ∙ ap (key_cmp key) (sym start.1) ∙ less in
        absurd (not_below same)

none_past : (front key : List ℕ) (keys : List (List ℕ)) → (key_cmp key front ≡ Less → ⊥) → begins_with front key ≡ false
    → AllAbove keys key → filter (begins_with front) keys ≡ []
none_past front key [] not_below none h = refl
none_past front key (k ∷ keys) not_below none h =
    ap (λ b. cond b (k ∷ filter (begins_with front) keys) (filter (begins_with front) keys))
    (past_all front key k not_below none h.0)
    ∙ none_past front key keys not_below none h.1

together : (front : List ℕ) (keys : List (List ℕ)) → NoneBelow keys front → IsStrictlySortedBy key_cmp keys
    → filter (begins_with front) keys ≡ take_while (begins_with front) keys
unfolding IsStrictlySortedBy
together front [] h sorted = refl
together front (k ∷ keys) h sorted = by (begins_with front k) refl (together front keys h.1 sorted.1)
  where
    by : (b : Bool) → begins_with front k ≡ b → filter (begins_with front) keys ≡ take_while (begins_with front) keys
        → filter (begins_with front) (k ∷ keys) ≡ take_while (begins_with front) (k ∷ keys)
    by true e later =
        ap (λ b. cond b (k ∷ filter (begins_with front) keys) (filter (begins_with front) keys)) e
        ∙ ap (λ z. k ∷ z) later
        ∙ sym (goes_on (Some front) k keys e)
    by false e later =
        ap (λ b. cond b (k ∷ filter (begins_with front) keys) (filter (begins_with front) keys)) e
        ∙ none_past front k keys h.0 e sorted.0
        ∙ sym (stops (Some front) k keys e)

pub walked : (front : List ℕ) (keys last : List (List ℕ)) → IsStrictlySortedBy key_cmp keys → StartsAt front keys last
    → take_while (begins_with front) last ≡ filter (begins_with front) keys
walked front keys last sorted start =
    sym (together front last start.1.from
    (sorted_back start.0 last (subst (IsStrictlySortedBy key_cmp) start.1.all sorted)))
    ∙ ap (λ z. z ++ filter (begins_with front) last) (sym (below_none front start.0 start.1.below))
    ∙ sym (filter-append (begins_with front) start.0 last) ∙ ap (filter (begins_with front)) (sym start.1.all)

-- ---- where a walk starts

pub apart : (k key : List ℕ) → key_cmp key k ≡ Less → key_cmp k key ≡ Less → ⊥
apart k key less more = let e : Less ≡ Greater = sym more ∙ flip_less key k less in cc

pub none_below_all : (keys : List (List ℕ)) (key : List ℕ) → AllAbove keys key → NoneBelow keys key
none_below_all [] key h = tt
none_below_all (k ∷ keys) key h = (apart k key h.0, none_below_all keys key h.1)

pub not_itself : (key : List ℕ) → key_cmp key key ≡ Less → ⊥
not_itself key e = apart key key e e

module _ {X : Type 0} (f : X → List (List ℕ)) (ps : List X) (at : ℕ) (x : X) (key : List ℕ) (lt : at < length ps)
    (is : x ≡ get_or ps at x) (sorted : IsStrictlySortedBy key_cmp (flat_map f ps))
    (below : AllBelow (flat_map f (take at ps)) key) (above : AllAbove (flat_map f (drop (at + 1) ps)) key) where
  from_page : (i : ℕ) (tail : List X) → tail ≡ drop at ps
      → keys_left f tail i ≡ drop i (f x) ++ flat_map f (drop (at + 1) ps)
  from_page i tail e = ap (λ z. keys_left f z i) (e ∙ from_here ps at x lt is)

  pub starts_at_key : (i : ℕ) (tail : List X) (walk : List (List ℕ)) → tail ≡ drop at ps → walk ≡ keys_left f tail i
      → i < length (f x) → get_or (f x) i [] ≡ key → StartsAt key (flat_map f ps) walk
  starts_at_key i tail walk e w within here =
      let all = found_at f ps at x key lt is sorted i within here in
      let before = flat_map f (take at ps) ++ take i (f x) in
      let behind = drop (i + 1) (f x) ++ flat_map f (drop (at + 1) ps) in
      let walk_is : walk ≡ key ∷ (drop (i + 1) (f x) ++ flat_map f (drop (at + 1) ps)) = w ∙ from_page i tail e
      ∙ ap (λ z. z ++ flat_map f (drop (at + 1) ps)) (drop_more (f x) i [] within
      ∙ ap (λ k. k ∷ drop (i + 1) (f x)) here) in
      let ordered = subst (IsStrictlySortedBy key_cmp) all sorted in (
        before,
        record {
          all = all ∙ ap (λ z. before ++ z) (sym walk_is);
          below = sorted_below before behind key ordered;
          from = subst (λ z. NoneBelow z key) (sym walk_is) (
            not_itself key,
            none_below_all behind key
                (sorted_above behind key (sorted_back before (key ∷ behind) ordered)),
          );
        },
      )

  pub starts_behind : (i : ℕ) (tail : List X) (walk : List (List ℕ)) → tail ≡ drop at ps → walk ≡ keys_left f tail i
      → i ≤ length (f x) → (Ascends (f x) → AreBelow (f x) key i) → (Ascends (f x) → AreAbove (f x) key i)
      → StartsAt key (flat_map f ps) walk
  starts_behind i tail walk e w le b a =
      let up = ascends (f x) (page_sorted f ps at x key lt is sorted) in
      let walk_is = w ∙ from_page i tail e in (
        flat_map f (take at ps) ++ take i (f x),
        record {
          all = gap_at f ps at x key lt is sorted i
              ∙ ap (λ z. (flat_map f (take at ps) ++ take i (f x)) ++ z) (sym walk_is);
          below = gap_below f ps at x key lt is sorted below above i le (b up);
          from = subst (λ z. NoneBelow z key) (sym walk_is)
              (none_below_all (drop i (f x) ++ flat_map f (drop (at + 1) ps)) key
              (gap_above f ps at x key lt is sorted below above i (a up)));
        },
      )
