-- Members in a slab, in the order of their keys.
use Rattle.std.proofs.Common.{◌≡◌, ℕ, zero, suc, ◌<◌, Bool, true, false, ◌==◌, if◌then◌else◌, List, [], ◌∷◌, ◌++◌}
use Rattle.std.proofs.Common.{length, map, get_or, set, is_some, refl, sym, ap, subst, ◌∙◌, inl, inr, arith, nat_eq}
use Rattle.std.proofs.Common.{true≢false}
use Rattle.std.specs.Prelude.{◌↔◌, Contains, IsSome, None, Option, Some, filter}
use Rattle.std.specs.List.{AllByRecursion, IsDistinct}
use Rattle.std.proofs.lemmas.Bool.{cases_eq}
use Rattle.std.proofs.lemmas.List.{get_or-map, get_or_default, map-append}
use Rattle.std.proofs.lemmas.List.Elements.{Contains-append_right}
use Rattle.slab.specs.Slab.{ContainsKey, Slab, Updates, get as value_at, with_value}
use Rattle.slab.proofs.SlabLemmas.{Updates-with_value}
use Rattle.ent_lists.specs.Elements.{differ}
use Rattle.ent_protocol.specs.State.{Member}
use Rattle.ent_members.specs.Order.{tx_of}
use Rattle.ent_run.specs.UnderKeys.{AreThere, if_passing, member_under, members_under, or_nobody}
use Rattle.ent_run.proofs.Distinct.{one_above}
use Rattle.ent_run.proofs.Lists.{contains_cases, contains_first, contains_later, contains_none, into_map}

-- ---- the member under a key

pub under_there : (live : Slab Member) (key : ℕ) → ContainsKey live key
    → value_at live key ≡ Some (member_under live key)
under_there live key there = by (value_at live key) there
  where
    by : (o : Option Member) → IsSome o → o ≡ Some (or_nobody o)
    by None none = absurd (true≢false (sym none))
    by (Some m) some = refl

pub key_there : (live : Slab Member) (keys : List ℕ) (i d : ℕ) → AreThere live keys → i < length keys
    → ContainsKey live (get_or keys i d)
key_there live keys i d there lt = there (get_or keys i d) (i, lt, get_or_default keys i (get_or keys i d) d lt)

pub key_first : (live : Slab Member) (keys rest : List ℕ) (first : ℕ) → AreThere live keys → keys ≡ first ∷ rest
    → ContainsKey live first
key_first live keys rest first there whole =
    there first (subst (λ (ks : List ℕ). Contains ks first) (sym whole) (contains_first first rest))

pub at_under : (live : Slab Member) (keys : List ℕ) (i k : ℕ) (d : Member) → i < length keys
    → get_or (members_under live keys) i d ≡ member_under live (get_or keys i k)
at_under live keys i k d lt = get_or-map (member_under live) keys i k d lt

map_agree : {X Y : Type 0} (f g : X → Y) (xs : List X) → ((x : X) → Contains xs x → f x ≡ g x) → map f xs ≡ map g xs
map_agree f g [] same = refl
map_agree f g (x ∷ xs) same = λ i.
    same x (contains_first x xs) i ∷ map_agree f g xs (λ y there. same y (contains_later x y xs there)) i

-- what isn't changed under these keys
pub under_same : (live new : Slab Member) (keys : List ℕ)
    → ((key : ℕ) → Contains keys key → value_at new key ≡ value_at live key)
    → members_under new keys ≡ members_under live keys
under_same live new keys same =
    map_agree (member_under new) (member_under live) keys (λ key there. ap or_nobody (same key there))

-- ---- numbers of their own

pub first_distinct : (xs ys : List Member) → IsDistinct nat_eq (map tx_of (xs ++ ys)) → IsDistinct nat_eq (map tx_of xs)
unfolding IsDistinct
first_distinct [] ys distinct = tt
first_distinct (x ∷ xs) ys distinct =
    (all_front (λ n. nat_eq x.tx n ≡ false) xs ys distinct.0, first_distinct xs ys distinct.1)
  where
    all_front : (P : ℕ → Type 0) (zs ws : List Member) → AllByRecursion P (map tx_of (zs ++ ws))
        → AllByRecursion P (map tx_of zs)
    all_front P [] ws all = tt
    all_front P (z ∷ zs) ws all = (all.0, all_front P zs ws all.1)

pub second_distinct : (xs ys : List Member) → IsDistinct nat_eq (map tx_of (xs ++ ys))
    → IsDistinct nat_eq (map tx_of ys)
unfolding IsDistinct
second_distinct [] ys distinct = distinct
second_distinct (x ∷ xs) ys distinct = second_distinct xs ys distinct.1

apart_numbers : (xs ys : List Member) → IsDistinct nat_eq (map tx_of (xs ++ ys)) → (tx : ℕ)
    → Contains (map tx_of xs) tx → Contains (map tx_of ys) tx → ⊥
unfolding IsDistinct
apart_numbers [] ys distinct tx first second = contains_none tx first
apart_numbers (x ∷ xs) ys distinct tx first second = elim (contains_cases x.tx tx (map tx_of xs) first) [
  | inl same ↦ differ x.tx tx (one_above (λ n. nat_eq x.tx n ≡ false) (map tx_of (xs ++ ys)) tx distinct.0
      (subst (λ ns. Contains ns tx) (sym (map-append tx_of xs ys))
      (Contains-append_right (map tx_of xs) (map tx_of ys) tx second))) same
  | inr later ↦ apart_numbers xs ys distinct.1 tx later second
]

module _ (live : Slab Member) where
  number_in : (keys : List ℕ) (key : ℕ) → Contains keys key
      → Contains (map tx_of (members_under live keys)) (member_under live key).tx
  number_in keys key there =
      into_map tx_of (members_under live keys) (member_under live key) (into_map (member_under live) keys key there)

  -- no key stands in both lists
  pub apart_keys : (xs ys : List ℕ)
      → IsDistinct nat_eq (map tx_of (members_under live xs ++ members_under live ys))
      → (key : ℕ) → Contains xs key → Contains ys key → ⊥
  apart_keys xs ys distinct key first second =
      apart_numbers (members_under live xs) (members_under live ys) distinct (member_under live key).tx
      (number_in xs key first) (number_in ys key second)

  not_later : (k key : ℕ) (ks : List ℕ)
      → AllByRecursion (λ n. nat_eq (member_under live k).tx n ≡ false) (map tx_of (members_under live ks))
      → Contains ks key → k ≡ key → ⊥
  not_later k key ks all there same =
      differ (member_under live k).tx (member_under live key).tx
      (one_above (λ n. nat_eq (member_under live k).tx n ≡ false) (map tx_of (members_under live ks))
      (member_under live key).tx all (number_in ks key there))
      (ap (λ n. (member_under live n).tx) same)

  pub keys_distinct : (keys : List ℕ) → IsDistinct nat_eq (map tx_of (members_under live keys))
      → IsDistinct nat_eq keys
  unfolding IsDistinct
  keys_distinct [] distinct = tt
  keys_distinct (k ∷ ks) distinct = (each ks distinct.0, keys_distinct ks distinct.1)
    where
      other : (n : ℕ) → ((member_under live k).tx == (member_under live n).tx) ≡ false → nat_eq k n ≡ false
      other n apart = by (k == n) refl
        where
          by : (b : Bool) → (k == n) ≡ b → b ≡ false
          by false is = refl
          by true is =
              absurd (differ (member_under live k).tx (member_under live n).tx apart
              (ap (λ m. (member_under live m).tx) (equal is)))
            where
              equal : (k == n) ≡ true → k ≡ n
              equal e = grind (arith, e)

      each : (ns : List ℕ)
          → AllByRecursion (λ n. nat_eq (member_under live k).tx n ≡ false) (map tx_of (members_under live ns))
          → AllByRecursion (λ n. nat_eq k n ≡ false) ns
      each [] all = tt
      each (n ∷ ns) all = (other n all.0, each ns all.1)

  -- ---- what is written under one key
  module _ (key : ℕ) (v : Member) (there : ContainsKey live key) where
    abbrev new : Slab Member
    new = with_value live key v

    update : Updates live new key (Some v)
    update = Updates-with_value live key v there

    pub written_there : (k : ℕ) → ContainsKey new k ↔ ContainsKey live k
    written_there k = elim (cases_eq k key) [
      | inl same ↦ (
        λ _. subst (ContainsKey live) (sym same) there,
        λ _. subst (ContainsKey new) (sym same) (ap is_some update.changed),
      )
      | inr differs ↦ (
        λ h. subst (λ (o : Option Member). IsSome o) (update.others k differs) h,
        λ h. subst (λ (o : Option Member). IsSome o) (sym (update.others k differs)) h,
      )
    ]

    pub written_apart : (keys : List ℕ) → (Contains keys key → ⊥)
        → members_under new keys ≡ members_under live keys
    written_apart keys out =
        under_same live new keys
        (λ k within. update.others k (λ same. out (subst (Contains keys) same within)))

    pub written_at : (keys : List ℕ) (i : ℕ) → IsDistinct nat_eq (map tx_of (members_under live keys))
        → i < length keys → get_or keys i key ≡ key → members_under new keys ≡ set (members_under live keys) i v
    unfolding IsDistinct
    written_at [] i distinct lt is = absurd (omega (arith, lt))
    written_at (k ∷ ks) zero distinct lt is =
        let head : member_under new k ≡ v = ap (member_under new) is ∙ ap or_nobody update.changed in
        let tail = written_apart ks (λ within. not_later k key ks distinct.0 within is) in
        λ j. head j ∷ tail j
    written_at (k ∷ ks) (suc i) distinct lt is =
        let low : i < length ks = omega (arith, lt) in
        let head : member_under new k ≡ member_under live k =
        ap or_nobody (update.others k (λ same. not_later k key ks distinct.0 (i, low, is) same)) in
        let tail = written_at ks i distinct.1 low is in
        λ j. head j ∷ tail j

-- ---- members that leave

pub if_passing_less : (passes : Member → Bool) (o : Option Member) → IsSome (if_passing passes o) → IsSome o
if_passing_less passes None some = some
if_passing_less passes (Some m) some = refl

module _ (live new : Slab Member) (passes : Member → Bool) where
  abbrev stays : ℕ → Bool
  stays key = is_some (value_at new key)

  one_more : (k : ℕ) (ks : List ℕ) (b : Bool) → ContainsKey live k → passes (member_under live k) ≡ b
      → value_at new k ≡ if_passing passes (value_at live k)
      → members_under new (filter stays ks) ≡ filter passes (members_under live ks)
      → members_under new (if stays k then k ∷ filter stays ks else filter stays ks)
      ≡ (if passes (member_under live k) then member_under live k ∷ filter passes (members_under live ks)
      else filter passes (members_under live ks))
  one_more k ks true there is left rest =
      let own : value_at new k ≡ Some (member_under live k) = left ∙ ap (if_passing passes) (under_there live k there)
      ∙ ap (λ b. if b then Some (member_under live k) else None) is in
      ap (λ b. members_under new (if b then k ∷ filter stays ks else filter stays ks)) (ap is_some own)
      ∙ (λ j. or_nobody (own j) ∷ rest j)
      ∙ sym (ap (λ b. if b then member_under live k ∷ filter passes (members_under live ks)
      else filter passes (members_under live ks)) is)
  one_more k ks false there is left rest =
      let none : value_at new k ≡ None = left ∙ ap (if_passing passes) (under_there live k there)
      ∙ ap (λ b. if b then Some (member_under live k) else None) is in
      ap (λ b. members_under new (if b then k ∷ filter stays ks else filter stays ks)) (ap is_some none)
      ∙ rest
      ∙ sym (ap (λ b. if b then member_under live k ∷ filter passes (members_under live ks)
      else filter passes (members_under live ks)) is)

  pub filtered_under : (keys : List ℕ) → AreThere live keys
      → ((key : ℕ) → Contains keys key → value_at new key ≡ if_passing passes (value_at live key))
      → members_under new (filter stays keys) ≡ filter passes (members_under live keys)
  filtered_under [] there left = refl
  filtered_under (k ∷ ks) there left =
      one_more k ks (passes (member_under live k)) (there k (contains_first k ks)) refl (left k (contains_first k ks))
      (filtered_under ks (λ key within. there key (contains_later k key ks within))
      (λ key within. left key (contains_later k key ks within)))
