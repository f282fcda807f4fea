-- Those at the front leave the order and the slab.
use Rattle.std.proofs.Common.{◌≡◌, ◌≢◌, ◌==◌, ◌||◌, ℕ, zero, suc, Bool, true, false, cond, List, [], ◌∷◌, map, take}
use Rattle.std.proofs.Common.{drop, refl, sym, ap, subst, ◌∙◌, arith, Option, Some, None, IsSome, is_some, nat_eq}
use Rattle.std.proofs.Common.{true≢false}
use Rattle.std.specs.List.{AllByRecursion, IsDistinct, list_any}
use Rattle.std.specs.Map.{keys_of, values_of, lookup}
use Rattle.std.proofs.lemmas.List.{drop-map}
use Rattle.slab.specs.Slab.{Slab, ContainsKey, Updates, get as value_at}
use Rattle.indexmap.specs.IndexMap.{IndexMap, keys, get}
use Rattle.ent_lists.proofs.Lists.{map_same, all_take}
use Rattle.ent_protocol.specs.State.{Dormant}
use Rattle.ent_members.specs.TransactionTable.{Stand, entrant_of, runs_at, runs_of, waiting}
use Rattle.ent_members.proofs.Lists.{or_no}

module _ {X : Type 0} where
  -- a key that stands apart from all isn't one that is found
  found_apart : (n k : ℕ) (es : List (ℕ × X)) (v : X) → AllByRecursion (λ y. nat_eq n y ≡ false) (keys_of es)
      → lookup (nat_eq k) es ≡ Some v → nat_eq k n ≡ false
  found_apart n k [] v all is = let e : None ≡ Some v = is in absurd cc
  found_apart n k (e ∷ es) v all is = by (nat_eq k e.0) refl is (found_apart n k es v all.1)
    where
      by : (b : Bool) → nat_eq k e.0 ≡ b → cond b (Some e.1) (lookup (nat_eq k) es) ≡ Some v
          → (lookup (nat_eq k) es ≡ Some v → nat_eq k n ≡ false) → nat_eq k n ≡ false
      by true same found rest = grind (arith, same, all.0)
      by false other found rest = rest found

  -- what is found behind a place is found in all, and not before it
  pub lookup_behind : (es : List (ℕ × X)) (r k : ℕ) (v : X) → IsDistinct nat_eq (keys_of es)
      → lookup (nat_eq k) (drop r es) ≡ Some v → lookup (nat_eq k) es ≡ Some v
  unfolding IsDistinct
  lookup_behind es zero k v distinct is = is
  lookup_behind [] (suc r) k v distinct is = is
  lookup_behind (e ∷ es) (suc r) k v distinct is =
      let rest = lookup_behind es r k v distinct.1 is in
      ap (λ b. cond b (Some e.1) (lookup (nat_eq k) es)) (found_apart e.0 k es v distinct.0 rest) ∙ rest

  front_lacks : (es : List (ℕ × X)) (r k : ℕ) (v : X) → IsDistinct nat_eq (keys_of es)
      → lookup (nat_eq k) (drop r es) ≡ Some v → list_any (λ n. n == k) (keys_of (take r es)) ≡ false
  unfolding IsDistinct
  front_lacks es zero k v distinct is = refl
  front_lacks [] (suc r) k v distinct is = refl
  front_lacks (e ∷ es) (suc r) k v distinct is =
      let rest = lookup_behind es r k v distinct.1 is in
      let apart = found_apart e.0 k es v distinct.0 rest in
      let other : (e.0 == k) ≡ false = grind (arith, apart) in
      λ i. other i || front_lacks es r k v distinct.1 is i

  -- what doesn't stand before a place is found behind it
  pub lookup_past : (es : List (ℕ × X)) (r k : ℕ) → list_any (λ n. n == k) (keys_of (take r es)) ≡ false
      → lookup (nat_eq k) (drop r es) ≡ lookup (nat_eq k) es
  lookup_past es zero k lack = refl
  lookup_past [] (suc r) k lack = refl
  lookup_past (e ∷ es) (suc r) k lack =
      let both = or_no (e.0 == k) (list_any (λ n. n == k) (keys_of (take r es))) lack in
      let other : nat_eq k e.0 ≡ false = grind (arith, both.0) in
      lookup_past es r k both.1 ∙ sym (ap (λ b. cond b (Some e.1) (lookup (nat_eq k) es)) other)

  -- each entry is found under its key
  widened : (e : ℕ × X) (es fs : List (ℕ × X)) → AllByRecursion (λ y. nat_eq e.0 y ≡ false) (keys_of fs)
      → AllByRecursion (λ f. lookup (nat_eq f.0) es ≡ Some f.1) fs
      → AllByRecursion (λ f. lookup (nat_eq f.0) (e ∷ es) ≡ Some f.1) fs
  widened e es [] apart all = tt
  widened e es (f ∷ fs) apart all =
      let other : nat_eq f.0 e.0 ≡ false = grind (arith, apart.0) in (
        ap (λ b. cond b (Some e.1) (lookup (nat_eq f.0) es)) other ∙ all.0,
        widened e es fs apart.1 all.1,
      )

  all_found : (es : List (ℕ × X)) → IsDistinct nat_eq (keys_of es)
      → AllByRecursion (λ f. lookup (nat_eq f.0) es ≡ Some f.1) es
  unfolding IsDistinct
  all_found [] distinct = tt
  all_found (e ∷ es) distinct =
      let own : nat_eq e.0 e.0 ≡ true = grind arith in (
        ap (λ b. cond b (Some e.1) (lookup (nat_eq e.0) es)) own,
        widened e es es distinct.0 (all_found es distinct.1),
      )

  apart_front : (n r : ℕ) (es : List (ℕ × X)) → AllByRecursion (λ y. nat_eq n y ≡ false) (keys_of es)
      → AllByRecursion (λ y. nat_eq n y ≡ false) (keys_of (take r es))
  apart_front n zero es all = tt
  apart_front n (suc r) [] all = tt
  apart_front n (suc r) (e ∷ es) all = (all.0, apart_front n r es all.1)

  distinct_front : (r : ℕ) (es : List (ℕ × X)) → IsDistinct nat_eq (keys_of es)
      → IsDistinct nat_eq (keys_of (take r es))
  unfolding IsDistinct
  distinct_front zero es distinct = tt
  distinct_front (suc r) [] distinct = tt
  distinct_front (suc r) (e ∷ es) distinct = (apart_front e.0 r es distinct.0, distinct_front r es distinct.1)

  distinct_behind : (r : ℕ) (es : List (ℕ × X)) → IsDistinct nat_eq (keys_of es)
      → IsDistinct nat_eq (keys_of (drop r es))
  unfolding IsDistinct
  distinct_behind zero es distinct = distinct
  distinct_behind (suc r) [] distinct = tt
  distinct_behind (suc r) (e ∷ es) distinct = distinct_behind r es distinct.1

-- ---- each entry's own stands in the slab

abbrev IsOwned : Slab Dormant → ℕ × ℕ → Type 0
IsOwned live e = (own : Dormant) × (value_at live e.1 ≡ Some own) × (own.tx ≡ e.0)

abbrev Owned : Slab Dormant → List (ℕ × ℕ) → Type 0
Owned live es = AllByRecursion (IsOwned live) es

owned_from : {S : Type 0} (live : Slab Dormant) (order : IndexMap ℕ ℕ S) → Stand live order → (fs : List (ℕ × ℕ))
    → AllByRecursion (λ f. lookup (nat_eq f.0) order.entries ≡ Some f.1) fs → Owned live fs
owned_from live order stand [] all = tt
owned_from live order stand (f ∷ fs) all = (stand f.0 f.1 all.0, owned_from live order stand fs all.1)

-- what stands under one key has one number
one_number : (live : Slab Dormant) (e f : ℕ × ℕ) → IsOwned live e → IsOwned live f → e.1 ≡ f.1 → e.0 ≡ f.0
one_number live e f one two same =
    let o : Some one.0 ≡ Some two.0 = sym one.1 ∙ ap (value_at live) same ∙ two.1 in
    let p : one.0 ≡ two.0 = cc in
    sym one.2 ∙ ap (λ (own : Dormant). own.tx) p ∙ two.2

apart_keys : (live : Slab Dormant) (e : ℕ × ℕ) (fs : List (ℕ × ℕ)) → IsOwned live e → Owned live fs
    → AllByRecursion (λ y. nat_eq e.0 y ≡ false) (keys_of fs)
    → AllByRecursion (λ y. nat_eq e.1 y ≡ false) (values_of fs)
apart_keys live e [] own owned apart = tt
apart_keys live e (f ∷ fs) own owned apart =
    (by (nat_eq e.1 f.1) refl, apart_keys live e fs own owned.1 apart.1)
  where
    by : (b : Bool) → nat_eq e.1 f.1 ≡ b → nat_eq e.1 f.1 ≡ false
    by false is = is
    by true is =
        let same : e.1 ≡ f.1 = grind (arith, is) in
        let number = one_number live e f own owned.0 same in
        let both : nat_eq e.0 f.0 ≡ true = grind (arith, number) in
        absurd (true≢false (sym both ∙ apart.0))

distinct_keys : (live : Slab Dormant) (fs : List (ℕ × ℕ)) → IsDistinct nat_eq (keys_of fs) → Owned live fs
    → IsDistinct nat_eq (values_of fs)
unfolding IsDistinct
distinct_keys live [] distinct owned = tt
distinct_keys live (f ∷ fs) distinct owned =
    (apart_keys live f fs owned.0 owned.1 distinct.0, distinct_keys live fs distinct.1 owned.1)

keys_there : (live : Slab Dormant) (fs : List (ℕ × ℕ)) → Owned live fs
    → AllByRecursion (ContainsKey live) (values_of fs)
keys_there live [] owned = tt
keys_there live (f ∷ fs) owned = (ap is_some owned.0.1, keys_there live fs owned.1)

keys_lack : (live : Slab Dormant) (e : ℕ × ℕ) (fs : List (ℕ × ℕ)) → IsOwned live e → Owned live fs
    → list_any (λ n. n == e.0) (keys_of fs) ≡ false → list_any (λ k. k == e.1) (values_of fs) ≡ false
keys_lack live e [] own owned lack = refl
keys_lack live e (f ∷ fs) own owned lack =
    let both = or_no (f.0 == e.0) (list_any (λ n. n == e.0) (keys_of fs)) lack in
    λ i. by (f.1 == e.1) refl both.0 i || keys_lack live e fs own owned.1 both.1 i
  where
    by : (b : Bool) → (f.1 == e.1) ≡ b → (f.0 == e.0) ≡ false → (f.1 == e.1) ≡ false
    by false is other = is
    by true is other =
        let same : e.1 ≡ f.1 = grind (arith, is) in
        let number = one_number live e f own owned.0 same in
        let both : (f.0 == e.0) ≡ true = grind (arith, number) in
        absurd (true≢false (sym both ∙ other))

values_front : (r : ℕ) (es : List (ℕ × ℕ)) → take r (values_of es) ≡ values_of (take r es)
values_front zero es = refl
values_front (suc r) [] = refl
values_front (suc r) (e ∷ es) = ap (λ (vs : List ℕ). e.1 ∷ vs) (values_front r es)

keys_front : (r : ℕ) (es : List (ℕ × ℕ)) → take r (keys_of es) ≡ keys_of (take r es)
keys_front zero es = refl
keys_front (suc r) [] = refl
keys_front (suc r) (e ∷ es) = ap (λ (ns : List ℕ). e.0 ∷ ns) (keys_front r es)

module _ {S : Type 0} (live : Slab Dormant) (order : IndexMap ℕ ℕ S) (r : ℕ) (stand : Stand live order)
    (distinct : IsDistinct nat_eq (keys order)) where
  front_owned : Owned live (take r order.entries)
  front_owned =
      all_take (IsOwned live) r order.entries
      (owned_from live order stand order.entries (all_found order.entries distinct))

  pub front_keys_distinct : IsDistinct nat_eq (take r (values_of order.entries))
  front_keys_distinct =
      subst (λ (vs : List ℕ). IsDistinct nat_eq vs) (sym (values_front r order.entries))
      (distinct_keys live (take r order.entries) (distinct_front r order.entries distinct) front_owned)

  pub front_keys_there : AllByRecursion (ContainsKey live) (take r (values_of order.entries))
  front_keys_there =
      subst (λ (vs : List ℕ). AllByRecursion (ContainsKey live) vs) (sym (values_front r order.entries))
      (keys_there live (take r order.entries) front_owned)

  module _ (new : Slab Dormant) (after : IndexMap ℕ ℕ S) (moved : after.entries ≡ drop r order.entries)
      (others : (key : ℕ) → list_any (λ k. k == key) (take r (values_of order.entries)) ≡ false
      → value_at new key ≡ value_at live key) where
    behind : (n key : ℕ) → get nat_eq after n ≡ Some key → lookup (nat_eq n) (drop r order.entries) ≡ Some key
    behind n key is = sym (ap (lookup (nat_eq n)) moved) ∙ is

    pub still : (n key : ℕ) → get nat_eq after n ≡ Some key → get nat_eq order n ≡ Some key
    still n key is = lookup_behind order.entries r n key distinct (behind n key is)

    pub still_has : (n : ℕ) → IsSome (get nat_eq after n) → IsSome (get nat_eq order n)
    still_has n there = by (get nat_eq after n) refl there
      where
        by : (o : Option ℕ) → get nat_eq after n ≡ o → IsSome o → IsSome (get nat_eq order n)
        by None is some = absurd (true≢false (sym some))
        by (Some key) is some = ap is_some (still n key is)

    value_still : (n key : ℕ) → get nat_eq after n ≡ Some key → value_at new key ≡ value_at live key
    value_still n key is =
        others key
        (ap (λ (vs : List ℕ). list_any (λ k. k == key) vs) (values_front r order.entries)
        ∙ keys_lack live (n, key) (take r order.entries) (stand n key (still n key is)) front_owned
        (front_lacks order.entries r n key distinct (behind n key is)))

    pub stand_left : Stand new after
    stand_left n key is =
        let own = stand n key (still n key is) in (own.0, value_still n key is ∙ own.1, own.2)

    same_entrant : (n key : ℕ) → get nat_eq after n ≡ Some key → entrant_of new after n ≡ entrant_of live order n
    same_entrant n key is =
        ap (λ (runs : ℕ). record { tx = n; runs = runs })
        (ap (runs_at new) is ∙ ap runs_of (value_still n key is) ∙ sym (ap (runs_at live) (still n key is)))

    same_each : (fs : List (ℕ × ℕ)) → AllByRecursion (λ f. lookup (nat_eq f.0) (drop r order.entries) ≡ Some f.1) fs
        → AllByRecursion (λ n. entrant_of new after n ≡ entrant_of live order n) (keys_of fs)
    same_each [] all = tt
    same_each (f ∷ fs) all =
        (same_entrant f.0 f.1 (ap (lookup (nat_eq f.0)) moved ∙ all.0), same_each fs all.1)

    pub waiting_left : waiting new after 0 ≡ waiting live order r
    waiting_left =
        ap (λ (es : List (ℕ × ℕ)). map (entrant_of new after) (keys_of es)) moved
        ∙ map_same (entrant_of new after) (entrant_of live order) (keys_of (drop r order.entries))
        (same_each (drop r order.entries) (all_found (drop r order.entries) (distinct_behind r order.entries distinct)))
        ∙ ap (map (entrant_of live order)) (sym (drop-map (λ (e : ℕ × ℕ). e.0) r order.entries))

    -- who isn't among those at the front has its place still
    pub still_there : (n : ℕ) → list_any (λ m. m == n) (take r (keys order)) ≡ false
        → get nat_eq after n ≡ get nat_eq order n
    still_there n lack =
        ap (lookup (nat_eq n)) moved
        ∙ lookup_past order.entries r n
        (sym (ap (λ (ns : List ℕ). list_any (λ m. m == n) ns) (keys_front r order.entries)) ∙ lack)

-- ---- one key after the other

pub rest_distinct : (key : ℕ) (rest : List ℕ) → IsDistinct nat_eq (key ∷ rest) → IsDistinct nat_eq rest
unfolding IsDistinct
rest_distinct key rest distinct = distinct.1

each_there : (live new : Slab Dormant) (key : ℕ) (rest : List ℕ) → Updates live new key None
    → AllByRecursion (λ other. nat_eq key other ≡ false) rest → AllByRecursion (ContainsKey live) rest
    → AllByRecursion (ContainsKey new) rest
each_there live new key [] update apart there = tt
each_there live new key (k ∷ rest) update apart there =
    let other : k ≢ key = grind (arith, apart.0) in (
      subst (λ (o : Option Dormant). IsSome o) (sym (update.others k other)) there.0,
      each_there live new key rest update apart.1 there.1,
    )

pub rest_there : (live new : Slab Dormant) (key : ℕ) (rest : List ℕ) → IsDistinct nat_eq (key ∷ rest)
    → AllByRecursion (ContainsKey live) (key ∷ rest) → Updates live new key None
    → AllByRecursion (ContainsKey new) rest
unfolding IsDistinct
rest_there live new key rest distinct there update = each_there live new key rest update distinct.0 there.1

pub others_still : (live mid new : Slab Dormant) (first : ℕ) (rest : List ℕ) → Updates live mid first None
    → ((key : ℕ) → list_any (λ k. k == key) rest ≡ false → value_at new key ≡ value_at mid key)
    → (key : ℕ) → list_any (λ k. k == key) (first ∷ rest) ≡ false → value_at new key ≡ value_at live key
others_still live mid new first rest update still key lack =
    let both = or_no (first == key) (list_any (λ k. k == key) rest) lack in
    let other : key ≢ first = grind (arith, both.0) in
    still key both.1 ∙ update.others key other
