-- Changes of sorted lists of keys, part by part.
use Rattle.std.proofs.Common.{◌≡◌, ℕ, Bool, true, false, zero, suc, ◌+◌, ◌<◌, ◌≤◌, get_or, take, drop, List, [], ◌∷◌}
use Rattle.std.proofs.Common.{◌++◌, length, append-nil, sym, refl, ap, subst, ◌∙◌, arith}
use Rattle.std.specs.Prelude.{◌||◌, ◌&&◌, not, cond}
use Rattle.std.specs.List.{AllByRecursion, flat_map}
use Rattle.std.specs.List.Sorted.{IsStrictlySortedBy}
use Rattle.std.specs.Ordering.{eq_by_cmp, is_lt}
use Rattle.std.specs.declared.cmp.Ordering.{Ordering}
use Rattle.std.specs.declared.cmp.Ordering.TheVariants.{Less, Equal, Greater}
use Rattle.std.proofs.lemmas.List.{append_assoc, length-append, take-append-drop, drop_all, drop_more}
use Rattle.std.proofs.lemmas.Bool.{and_parts}
use Rattle.ent_page.proofs.Paging.{flat_at, flat_from}
use Rattle.ent_lists.specs.Elements.{all_by, all_joined, from_here}
use Rattle.ent_lists.specs.Sets as set
use Rattle.ent_lists.specs.Laws.{same_set, contains-from_list, contains-insert_all, contains-without_all}
use Rattle.ent_page.specs.Key.{key_cmp}
use Rattle.ent_page.specs.Paged.{AllBelow, AllAbove}
use Rattle.ent_page.specs.Front.{NoneBelow, IsSplitAt}
use Rattle.ent_page.specs.Changed.{has, IsChanged, IsSplitBefore, IsPut}
use Rattle.ent_page.proofs.Sorted.{nil_sorted, keys_total, keys_exact, flip, any_over, same_key, equal_keys}
use Rattle.ent_page.proofs.Sorted.{sorted_front, sorted_back, sorted_below, sorted_above, above_more, none_above}
use Rattle.ent_page.proofs.Beginnings.{not_itself, none_below_all}

-- ---- truth values

or_parts : (a b : Bool) (P : Type 0) → (a ≡ true → P) → (b ≡ true → P) → (a || b) ≡ true → P
or_parts true b P h k e = h refl
or_parts false b P h k e = k e

-- one half of a test of two halves, where the other answers no
left_only : (k r a m o n : Bool) → m ≡ false → o ≡ false → n ≡ false
    → (((k && not r) || a) || ((m && not o) || n)) ≡ (((k || m) && not (r || o)) || (a || n))
left_only k r a m o n e f g =
    (λ i. ((k && not r) || a) || ((e i && not (f i)) || g i)) ∙ by k r a
    ∙ sym (λ i. ((k || e i) && not (r || f i)) || (a || g i))
  where
    by : (k r a : Bool) → (((k && not r) || a) || false) ≡ (((k || false) && not (r || false)) || (a || false))
    by true true true = refl
    by true true false = refl
    by true false a = refl
    by false r true = refl
    by false r false = refl

right_only : (k r a m o n : Bool) → k ≡ false → r ≡ false → a ≡ false
    → (((k && not r) || a) || ((m && not o) || n)) ≡ (((k || m) && not (r || o)) || (a || n))
right_only k r a m o n e f g = (λ i. ((e i && not (f i)) || g i) || ((m && not o) || n))
    ∙ sym (λ i. ((e i || m) && not (f i || o)) || (g i || n))

-- ---- what a list has

-- what holds of each key holds of one that the list has
of_one : (P : List ℕ → Type 0) (xs : List (List ℕ)) (q : List ℕ) → AllByRecursion P xs → has xs q ≡ true → P q
of_one P [] q h e = absurd cc
of_one P (x ∷ xs) q h e = or_parts (eq_by_cmp key_cmp q x) (has xs q) (P q) (λ s. subst P (sym (equal_keys q x s)) h.0)
    (of_one P xs q h.1) e

-- and what holds of each that the list has holds of all
of_all : (P : List ℕ → Type 0) (xs : List (List ℕ)) → ((q : List ℕ) → has xs q ≡ true → P q) → AllByRecursion P xs
of_all P [] h = tt
of_all P (x ∷ xs) h = (
  h x (ap (λ b. b || has xs x) (same_key x)),
  of_all P xs (λ q e. h q (or_true (eq_by_cmp key_cmp q x) (has xs q) e)),
)
  where
    or_true : (a b : Bool) → b ≡ true → (a || b) ≡ true
    or_true true b e = refl
    or_true false b e = e

-- ---- lists on two sides of a border

module _ (low : List ℕ → Bool) (apart : (x y : List ℕ) → low x ≡ true → low y ≡ false → key_cmp x y ≡ Less) where
  abbrev pub Side : Bool → List (List ℕ) → Type 0
  Side t xs = AllByRecursion (λ k. low k ≡ t) xs

  has_none : (t : Bool) (xs : List (List ℕ)) (q : List ℕ) → Side t xs → (low q ≡ t → ⊥) → has xs q ≡ false
  has_none t xs q h none = by (has xs q) refl
    where
      by : (b : Bool) → has xs q ≡ b → b ≡ false
      by false e = refl
      by true e = absurd (none (of_one (λ k. low k ≡ t) xs q h e))

  over : (xs ys : List (List ℕ)) → IsStrictlySortedBy key_cmp xs → IsStrictlySortedBy key_cmp ys → Side true xs
      → Side false ys → IsStrictlySortedBy key_cmp (xs ++ ys)
  unfolding IsStrictlySortedBy
  over [] ys h k low_xs high_ys = k
  over (x ∷ xs) ys h k low_xs high_ys = (
    all_joined (λ y. key_cmp x y ≡ Less) xs ys h.0
        (all_by (λ y. low y ≡ false) (λ y. key_cmp x y ≡ Less) ys (λ y e. apart x y low_xs.0 e) high_ys),
    over xs ys h.1 k low_xs.1 high_ys,
  )

  -- what a change leaves is on the side where all of its lists are
  side_after : (t : Bool) (keys removed added after : List (List ℕ)) → Side t keys → Side t added
      → IsChanged keys removed added after → Side t after
  side_after t keys removed added after h k is = of_all (λ q. low q ≡ t) after (λ q e.
      or_parts (has keys q && not (has removed q)) (has added q) (low q ≡ t)
      (λ s. of_one (λ k. low k ≡ t) keys q h (and_parts (has keys q) (not (has removed q)) s).0)
      (of_one (λ k. low k ≡ t) added q k) (sym (is.same q) ∙ e))

  -- two changes, side by side
  pub beside : (keys removed added after more others new later : List (List ℕ))
      → Side true keys → Side true removed → Side true added → Side false more → Side false others → Side false new
      → IsChanged keys removed added after → IsChanged more others new later
      → IsChanged (keys ++ more) (removed ++ others) (added ++ new) (after ++ later)
  beside keys removed added after more others new later a b c d e f is then =
      record {
        sorted = over after later is.sorted then.sorted (side_after true keys removed added after a c is)
            (side_after false more others new later d f then);
        same = λ q.
            any_over (eq_by_cmp key_cmp q) after later
            ∙ (λ i. is.same q i || then.same q i)
            ∙ by q (low q) refl
            ∙ sym (λ i.
            (any_over (eq_by_cmp key_cmp q) keys more i && not (any_over (eq_by_cmp key_cmp q) removed others i))
            || any_over (eq_by_cmp key_cmp q) added new i);
        count = omega
            (arith, is.count, then.count, length-append after later, length-append keys more, length-append added new);
      }
    where
      by : (q : List ℕ) (t : Bool) → low q ≡ t
          → (((has keys q && not (has removed q)) || has added q) || ((has more q && not (has others q)) || has new q))
          ≡ (((has keys q || has more q) && not (has removed q || has others q)) || (has added q || has new q))
      by q true s =
          let none : low q ≡ false → ⊥ = λ z. (let w : true ≡ false = sym s ∙ z in cc) in
          left_only (has keys q) (has removed q) (has added q) (has more q) (has others q) (has new q)
          (has_none false more q d none) (has_none false others q e none) (has_none false new q f none)
      by q false s =
          let none : low q ≡ true → ⊥ = λ z. (let w : true ≡ false = sym z ∙ s in cc) in
          right_only (has keys q) (has removed q) (has added q) (has more q) (has others q) (has new q)
          (has_none true keys q a none) (has_none true removed q b none) (has_none true added q c none)

-- ---- the border is a key, or there is none

abbrev is_below : List ℕ → List ℕ → Bool
is_below bound key = is_lt (key_cmp key bound)

below_bound : (bound x y : List ℕ) → is_below bound x ≡ true → is_below bound y ≡ false → key_cmp x y ≡ Less
below_bound bound x y h k = by (key_cmp x bound) refl h (key_cmp y bound) refl k
  where
    by : (o : Ordering) → key_cmp x bound ≡ o → is_lt o ≡ true → (p : Ordering) → key_cmp y bound ≡ p → is_lt p ≡ false
        → key_cmp x y ≡ Less
    by Less e h Less f k = absurd cc
    by Less e h Equal f k = ap (key_cmp x) (keys_exact y bound f) ∙ e
    by Less e h Greater f k = keys_total.trans x bound y e (flip y bound f)
    by Equal e h p f k = absurd cc
    by Greater e h p f k = absurd cc

low_side : (bound : List ℕ) (xs : List (List ℕ)) → AllBelow xs bound → AllByRecursion (λ k. is_below bound k ≡ true) xs
low_side bound xs h = all_by (λ k. key_cmp k bound ≡ Less) (λ k. is_below bound k ≡ true) xs (λ k e. ap is_lt e) h

high_side : (bound : List ℕ) (xs : List (List ℕ)) → NoneBelow xs bound
    → AllByRecursion (λ k. is_below bound k ≡ false) xs
high_side bound xs h = all_by (λ k. key_cmp k bound ≡ Less → ⊥) (λ k. is_below bound k ≡ false) xs
    (λ k none. by (key_cmp k bound) none) h
  where
    by : (o : Ordering) → (o ≡ Less → ⊥) → is_lt o ≡ false
    by Less none = absurd (none refl)
    by Equal none = refl
    by Greater none = refl

-- changes on both sides of a key
pub at_border : (bound : List ℕ)
    (keys more removed removed_front removed_rest added added_front added_rest after later : List (List ℕ))
    → AllBelow keys bound → NoneBelow more bound → IsSplitAt bound removed removed_front removed_rest
    → IsSplitAt bound added added_front added_rest
    → IsChanged keys removed_front added_front after → IsChanged more removed_rest added_rest later
    → IsChanged (keys ++ more) removed added (after ++ later)
at_border bound keys more removed rf rr added af ar after later low high r a is then =
    subst (λ z. IsChanged (keys ++ more) z added (after ++ later)) (sym r.all) (
    subst (λ z. IsChanged (keys ++ more) (rf ++ rr) z (after ++ later)) (sym a.all) (
    beside (is_below bound) (below_bound bound) keys rf af after more rr ar later
    (low_side bound keys low) (low_side bound rf r.below) (low_side bound af a.below) (high_side bound more high)
    (high_side bound rr r.from) (high_side bound ar a.from) is then))

-- changes before and behind the first of some keys
all_low : (xs : List (List ℕ)) → AllByRecursion (λ (k : List ℕ). true ≡ true) xs
all_low [] = tt
all_low (x ∷ xs) = (refl, all_low xs)

pub before_others :
    (keys more removed removed_front removed_rest added added_front added_rest after later : List (List ℕ))
    → IsStrictlySortedBy key_cmp (keys ++ more) → IsSplitBefore more removed removed_front removed_rest
    → IsSplitBefore more added added_front added_rest
    → IsChanged keys removed_front added_front after → IsChanged more removed_rest added_rest later
    → IsChanged (keys ++ more) removed added (after ++ later)
before_others keys [] removed rf rr added af ar after later sorted r a is then =
    subst (λ z. IsChanged (keys ++ []) z added (after ++ later)) (sym (whole removed rf rr r)) (
    subst (λ z. IsChanged (keys ++ []) (rf ++ rr) z (after ++ later)) (sym (whole added af ar a)) (
    beside (λ _. true) (λ x y h k. absurd cc) keys rf af after [] rr ar later
    (all_low keys) (all_low rf) (all_low af) tt (rw r.1 tt) (rw a.1 tt) is then))
  where
    whole : (xs front rest : List (List ℕ)) → IsSplitBefore [] xs front rest → xs ≡ front ++ rest
    whole xs front rest h = h.0 ∙ sym (append-nil front) ∙ ap (λ z. front ++ z) (sym h.1)
before_others keys (bound ∷ more) removed rf rr added af ar after later sorted r a is then =
    let behind = sorted_back keys (bound ∷ more) sorted in
    at_border bound keys (bound ∷ more) removed rf rr added af ar after later (sorted_below keys more bound sorted)
    (not_itself bound, none_below_all more bound (sorted_above more bound behind)) r a is then

-- ---- single keys

-- nothing but added keys
pub only_added : (removed added : List (List ℕ)) → IsStrictlySortedBy key_cmp added → IsChanged [] removed added added
only_added removed added sorted = record { sorted = sorted; same = λ q. refl; count = omega arith }

pub unchanged : (keys : List (List ℕ)) → IsStrictlySortedBy key_cmp keys → IsChanged keys [] [] keys
unchanged keys sorted = record { sorted = sorted; same = λ q. by (has keys q); count = omega arith }
  where
    by : (b : Bool) → b ≡ ((b && true) || false)
    by true = refl
    by false = refl

-- a key that goes, or that is among the added
pub left_out : (key : List ℕ) (keys removed added later : List (List ℕ)) → AllAbove keys key
    → (has removed key || has added key) ≡ true
    → IsChanged keys removed added later → IsChanged (key ∷ keys) removed added later
left_out key keys removed added later above out is =
    record {
      sorted = is.sorted;
      same = λ q. is.same q
          ∙ by q (eq_by_cmp key_cmp q key) refl;
      count = omega (arith, is.count);
    }
  where
    on : (k r a : Bool) → k ≡ false → (r || a) ≡ true → ((k && not r) || a) ≡ ((true && not r) || a)
    on true r a e h = cc
    on false true a e h = refl
    on false false true e h = refl
    on false false false e h = cc

    by : (q : List ℕ) (b : Bool) → eq_by_cmp key_cmp q key ≡ b
        → ((has keys q && not (has removed q)) || has added q) ≡
        (((b || has keys q) && not (has removed q)) || has added q)
    by q false e = refl
    by q true e =
        let same = equal_keys q key e in
        on (has keys q) (has removed q) (has added q) (ap (has keys) same ∙ none_above keys key above)
        (ap (λ z. has removed z || has added z) same ∙ out)

-- a key that stays
pub kept : (key : List ℕ) (keys removed added later : List (List ℕ)) → AllAbove keys key → NoneBelow added key
    → has removed key ≡ false → has added key ≡ false
    → IsChanged keys removed added later → IsChanged (key ∷ keys) removed added (key ∷ later)
unfolding IsStrictlySortedBy
kept key keys removed added later above from stays old is =
    record {
      sorted = (of_all (λ q. key_cmp key q ≡ Less) later all_above, is.sorted);
      same = λ q. ap (λ b. eq_by_cmp key_cmp q key || b) (is.same q) ∙ by q (eq_by_cmp key_cmp q key) refl;
      count = omega (arith, is.count);
    }
  where
    behind : (q : List ℕ) → has added q ≡ true → (o : Ordering) → key_cmp key q ≡ o → o ≡ Less
    behind q h Less e = refl
    behind q h Equal e = absurd (let f : true ≡ false = sym h ∙ ap (has added) (sym (keys_exact key q e)) ∙ old in cc)
    behind q h Greater e = absurd (of_one (λ k. key_cmp k key ≡ Less → ⊥) added q from h (flip key q e))

    all_above : (q : List ℕ) → has later q ≡ true → key_cmp key q ≡ Less
    all_above q h =
        or_parts (has keys q && not (has removed q)) (has added q) (key_cmp key q ≡ Less)
        (λ s. of_one (λ k. key_cmp key k ≡ Less) keys q above (and_parts (has keys q) (not (has removed q)) s).0)
        (λ s. behind q s (key_cmp key q) refl) (sym (is.same q) ∙ h)

    on : (k r a : Bool) → r ≡ false → true ≡ ((true && not r) || a)
    on k true a e = cc
    on k false a e = refl

    by : (q : List ℕ) (b : Bool) → eq_by_cmp key_cmp q key ≡ b
        → (b || ((has keys q && not (has removed q)) || has added q)) ≡
        (((b || has keys q) && not (has removed q)) || has added q)
    by q false e = refl
    by q true e = on (has keys q) (has removed q) (has added q) (ap (has removed) (equal_keys q key e) ∙ stays)

-- ---- a change under way

pub record IsUnderWay (keys removed added old new keys_left removed_left added_left : List (List ℕ)) : Type 0 where
  pub put : List (List ℕ)
  pub is : new ≡ old ++ put
  pub goes_on : (later : List (List ℕ)) → IsChanged keys_left removed_left added_left later
      → IsChanged keys removed added (put ++ later)
  pub removed_sorted : IsStrictlySortedBy key_cmp removed_left
  pub added_sorted : IsStrictlySortedBy key_cmp added_left

pub starts : (keys removed added old : List (List ℕ)) → IsStrictlySortedBy key_cmp removed
    → IsStrictlySortedBy key_cmp added → IsUnderWay keys removed added old old keys removed added
starts keys removed added old r a =
    record { put = []; is = sym (append-nil old); goes_on = λ later is. is; removed_sorted = r; added_sorted = a }

-- one part more
further : (keys removed added old new kl rl al more kl' rl' al' new' : List (List ℕ))
    → IsUnderWay keys removed added old new kl rl al → new' ≡ new ++ more
    → ((later : List (List ℕ)) → IsChanged kl' rl' al' later → IsChanged kl rl al (more ++ later))
    → IsStrictlySortedBy key_cmp rl' → IsStrictlySortedBy key_cmp al'
    → IsUnderWay keys removed added old new' kl' rl' al'
further keys removed added old new kl rl al more kl' rl' al' new' way e step r a =
    record {
      put = way.put ++ more;
      is = e ∙ ap (λ z. z ++ more) way.is ∙ append_assoc old way.put more;
      goes_on = λ later is. subst (λ z. IsChanged keys removed added z) (sym (append_assoc way.put more later))
          (way.goes_on (more ++ later) (step later is));
      removed_sorted = r;
      added_sorted = a;
    }

pub ends : (keys removed added old new removed_left added_left last : List (List ℕ))
    → IsUnderWay keys removed added old new [] removed_left added_left → last ≡ new ++ added_left
    → IsPut (IsChanged keys removed added) old last
ends keys removed added old new rl al last way e = (
  way.put ++ al,
  e ∙ ap (λ z. z ++ al) way.is
      ∙ append_assoc old way.put al,
  way.goes_on al (only_added rl al way.added_sorted),
)

-- ---- the first of sorted keys

pub first_decides : (keys : List (List ℕ)) (key first : List ℕ) → 0 < length keys → get_or keys 0 first ≡ first
    → IsStrictlySortedBy key_cmp keys → NoneBelow keys key
    → (b : Bool) → (b ≡ true → first ≡ key) → (first ≡ key → b ≡ true) → b ≡ has keys key
first_decides [] key first lt at sorted from b h k = absurd (omega arith)
first_decides (x ∷ keys) key first lt at sorted from true h k =
    sym (ap (λ z. eq_by_cmp key_cmp key z || has keys key) (at ∙ h refl) ∙ ap (λ b. b || has keys key) (same_key key))
first_decides (x ∷ keys) key first lt at sorted from false h k =
    sym (none_above (x ∷ keys) key (above, above_more keys x key (sorted_above keys x sorted) above))
  where
    behind : (o : Ordering) → key_cmp key x ≡ o → o ≡ Less
    behind Less e = refl
    behind Equal e = let f : false ≡ true = k (sym at ∙ sym (keys_exact key x e)) in cc
    behind Greater e = absurd (from.0 (flip key x e))

    above : key_cmp key x ≡ Less
    above = behind (key_cmp key x) refl

-- ---- where a sorted list is cut

pub cut_here : (keys : List (List ℕ)) (bound key : List ℕ) (at : ℕ) (front back : List (List ℕ))
    → IsStrictlySortedBy key_cmp keys → at < length keys → key ≡ get_or keys at key
    → AllBelow (take at keys) bound → (key_cmp key bound ≡ Less → ⊥) → front ≡ take at keys → back ≡ drop at keys
    → IsSplitAt bound keys front back
cut_here keys bound key at front back sorted lt is below over f b =
    let split : drop at keys ≡ key ∷ drop (at + 1) keys = from_here keys at key lt is in
    let behind : AllAbove (drop (at + 1) keys) key =
    sorted_above (drop (at + 1) keys) key
    (subst (IsStrictlySortedBy key_cmp) split
    (sorted_back (take at keys) (drop at keys)
    (subst (IsStrictlySortedBy key_cmp) (sym (take-append-drop at keys)) sorted))) in
    record {
      all = sym (take-append-drop at keys) ∙ (λ i. sym f i ++ sym b i);
      below = subst (λ z. AllBelow z bound) (sym f) below;
      from = subst (λ z. NoneBelow z bound) (sym (b ∙ split)) (
        over,
        all_by (λ k. key_cmp key k ≡ Less) (λ k. key_cmp k bound ≡ Less → ⊥) (drop (at + 1) keys)
            (λ k h less. over (keys_total.trans key k bound h less)) behind,
      );
    }

take-at : (keys : List (List ℕ)) (at : ℕ) (key : List ℕ) → at < length keys → key ≡ get_or keys at key
    → take (at + 1) keys ≡ take at keys ++ key ∷ []
take-at [] at key lt is = absurd (omega arith)
take-at (k ∷ keys) zero key lt is = ap (λ z. z ∷ []) (sym is)
take-at (k ∷ keys) (suc at) key lt is =
    ap (λ n. take n (k ∷ keys)) (let e : suc at + 1 ≡ suc (at + 1) = omega arith in e)
    ∙ ap (λ z. k ∷ z) (take-at keys at key (omega arith) is)

pub below_next : (keys : List (List ℕ)) (bound key : List ℕ) (at : ℕ) → at < length keys → key ≡ get_or keys at key
    → AllBelow (take at keys) bound → key_cmp key bound ≡ Less → AllBelow (take (at + 1) keys) bound
below_next keys bound key at lt is below less =
    subst (λ z. AllBelow z bound) (sym (take-at keys at key lt is))
    (all_joined (λ k. key_cmp k bound ≡ Less) (take at keys) (key ∷ []) below (less, tt))

pub sorted_parts : (bound : List ℕ) (keys front others : List (List ℕ)) → IsStrictlySortedBy key_cmp keys
    → IsSplitAt bound keys front others → IsStrictlySortedBy key_cmp front × IsStrictlySortedBy key_cmp others
sorted_parts bound keys front others sorted split =
    let both = subst (IsStrictlySortedBy key_cmp) split.all sorted in
    (sorted_front front others both, sorted_back front others both)

pub split_sorted : (bounds keys front others : List (List ℕ)) → IsStrictlySortedBy key_cmp keys
    → IsSplitBefore bounds keys front others → IsStrictlySortedBy key_cmp front × IsStrictlySortedBy key_cmp others
split_sorted [] keys front others sorted split =
    (subst (IsStrictlySortedBy key_cmp) split.0 sorted, subst (IsStrictlySortedBy key_cmp) (sym split.1) nil_sorted)
split_sorted (bound ∷ bounds) keys front others sorted split = sorted_parts bound keys front others sorted split

-- a key that a walk has passed
module _ (keys removed added old new : List (List ℕ)) (key : List ℕ) (ks rl rf rr al af ar : List (List ℕ))
    (way : IsUnderWay keys removed added old new (key ∷ ks) rl al) (above : AllAbove ks key)
    (r : IsSplitAt key rl rf rr) (a : IsSplitAt key al af ar) where
  abbrev one : List (List ℕ)
  one = cond (has rr key || has ar key) [] (key ∷ [])

  goes : (b : Bool) → (has rr key || has ar key) ≡ b → (later : List (List ℕ)) → IsChanged ks rr ar later
      → IsChanged (key ∷ ks) rr ar (cond b [] (key ∷ []) ++ later)
  goes true e later is = left_out key ks rr ar later above e is
  goes false e later is =
      kept key ks rr ar later above a.from (none_first (has rr key) (has ar key) e)
      (none_second (has rr key) (has ar key) e) is
    where
      none_first : (b c : Bool) → (b || c) ≡ false → b ≡ false
      none_first true c e = cc
      none_first false c e = refl

      none_second : (b c : Bool) → (b || c) ≡ false → c ≡ false
      none_second true c e = cc
      none_second false c e = e

  pub key_done : (between last : List (List ℕ)) → between ≡ new ++ af
      → last ≡ between ++ cond (has rr key || has ar key) [] (key ∷ [])
      → IsUnderWay keys removed added old last ks rr ar
  key_done between last e f =
      further keys removed added old new (key ∷ ks) rl al (af ++ one) ks rr ar last way (f ∙ ap (λ z. z ++ one) e
      ∙ append_assoc new af one)
      (λ later is.
      subst (λ z. IsChanged (key ∷ ks) rl al z) (sym (append_assoc af one later)) (
      at_border key [] (key ∷ ks) rl rf rr al af ar af (one ++ later) tt (not_itself key, none_below_all ks key above)
      r a
      (only_added rf af (sorted_parts key al af ar way.added_sorted a).0)
      (goes (has rr key || has ar key) refl later is)))
      (sorted_parts key rl rf rr way.removed_sorted r).1 (sorted_parts key al af ar way.added_sorted a).1

-- a page that a walk has passed
pub page_done : (keys removed added old new page more rl rf rr al af ar last : List (List ℕ))
    → IsUnderWay keys removed added old new (page ++ more) rl al
    → IsStrictlySortedBy key_cmp (page ++ more) → IsSplitBefore more rl rf rr → IsSplitBefore more al af ar
    → IsPut (IsChanged page rf af) new last → IsUnderWay keys removed added old last more rr ar
page_done keys removed added old new page more rl rf rr al af ar last way sorted r a put =
    further keys removed added old new (page ++ more) rl al put.0 more rr ar last way put.1
    (λ later is. before_others page more rl rf rr al af ar put.0 later sorted r a put.2 is)
    (split_sorted more rl rf rr way.removed_sorted r).1 (split_sorted more al af ar way.added_sorted a).1

-- ---- the same, as code meets it

pub key_step : (keys removed added old new : List (List ℕ)) (i : ℕ) (key : List ℕ)
    (rl rf rr al af ar between last : List (List ℕ)) → i < length keys → key ≡ get_or keys i []
    → IsStrictlySortedBy key_cmp keys → IsUnderWay keys removed added old new (drop i keys) rl al
    → IsSplitAt key rl rf rr → IsSplitAt key al af ar
    → between ≡ new ++ af → last ≡ between ++ cond (has rr key || has ar key) [] (key ∷ [])
    → IsUnderWay keys removed added old last (drop (i + 1) keys) rr ar
key_step keys removed added old new i key rl rf rr al af ar between last lt is sorted way r a e f =
    let split : drop i keys ≡ key ∷ drop (i + 1) keys = drop_more keys i [] lt
    ∙ ap (λ k. k ∷ drop (i + 1) keys) (sym is) in
    let ordered =
    subst (IsStrictlySortedBy key_cmp) split
    (sorted_back (take i keys) (drop i keys)
    (subst (IsStrictlySortedBy key_cmp) (sym (take-append-drop i keys)) sorted)) in
    key_done keys removed added old new key (drop (i + 1) keys) rl rf rr al af ar
    (subst (λ z. IsUnderWay keys removed added old new z rl al) split way)
    (sorted_above (drop (i + 1) keys) key ordered) r a between last e f

module _ {X : Type 0} (g : X → List (List ℕ)) (ps : List X) (at : ℕ) (x : X) (lt : at < length ps)
    (is : x ≡ get_or ps at x) (sorted : IsStrictlySortedBy key_cmp (flat_map g ps)) where
  pub ordered_from : IsStrictlySortedBy key_cmp (g x ++ flat_map g (drop (at + 1) ps))
  ordered_from = sorted_back (flat_map g (take at ps)) (g x ++ flat_map g (drop (at + 1) ps))
      (subst (IsStrictlySortedBy key_cmp) (flat_at g ps at x lt is) sorted)

  pub page_step : (removed added old new rl rf rr al af ar last : List (List ℕ))
      → IsUnderWay (flat_map g ps) removed added old new (flat_map g (drop at ps)) rl al
      → IsSplitBefore (flat_map g (drop (at + 1) ps)) rl rf rr → IsSplitBefore (flat_map g (drop (at + 1) ps)) al af ar
      → IsPut (IsChanged (g x) rf af) new last
      → IsUnderWay (flat_map g ps) removed added old last (flat_map g (drop (at + 1) ps)) rr ar
  page_step removed added old new rl rf rr al af ar last way r a put =
      page_done (flat_map g ps) removed added old new (g x) (flat_map g (drop (at + 1) ps)) rl rf rr al af ar last
      (subst (λ z. IsUnderWay (flat_map g ps) removed added old new z rl al) (flat_from g ps at x lt is) way)
      ordered_from r a put

pub nothing_left : {X : Type 0} (g : X → List (List ℕ)) (ps : List X) (at : ℕ) → length ps ≤ at
    → flat_map g (drop at ps) ≡ []
nothing_left g ps at le = ap (flat_map g) (drop_all at ps le)

pub all_of_it : (keys removed added last after : List (List ℕ)) → IsPut (IsChanged keys removed added) [] last
    → after ≡ last → IsChanged keys removed added after
all_of_it keys removed added last after put e = subst (IsChanged keys removed added) (sym (e ∙ put.1)) put.2

-- ---- as a set

pub changed_set : (keys removed added r a after : List (List ℕ)) → IsChanged keys r a after
    → set.from_list {R = key_cmp} r ≡ set.from_list removed → set.from_list {R = key_cmp} a ≡ set.from_list added
    → set.from_list {R = key_cmp} after ≡ set.insert_all (set.without_all (set.from_list keys) removed) added
changed_set keys removed added r a after is e f = same_set keys_total keys_exact _ _ (λ q.
    contains-from_list keys_total keys_exact after q ∙ is.same q
    ∙ (λ i. (sym (contains-from_list keys_total keys_exact keys q) i && not (listed r removed e q i))
    || listed a added f q i)
    ∙ or_comm (set.contains (set.from_list {R = key_cmp} keys) q && not (has removed q)) (has added q)
    ∙ ap (λ b. has added q || b) (sym (contains-without_all keys_total keys_exact (set.from_list keys) removed q))
    ∙ sym (contains-insert_all keys_total keys_exact (set.without_all (set.from_list keys) removed) added q))
  where
    listed : (xs ys : List (List ℕ)) → set.from_list {R = key_cmp} xs ≡ set.from_list ys → (q : List ℕ)
        → has xs q ≡ has ys q
    listed xs ys e q = sym (contains-from_list keys_total keys_exact xs q) ∙ ap (λ s. set.contains s q) e
        ∙ contains-from_list keys_total keys_exact ys q

    or_comm : (a b : Bool) → (a || b) ≡ (b || a)
    or_comm true true = refl
    or_comm true false = refl
    or_comm false true = refl
    or_comm false false = refl
