-- Laws of finite sets in an order that tells all keys apart.
--
-- These sets aren't the library's `FinSet`: its words can't be opened outside of it, and no law of it says that its
-- items ascend, or counts the set of a list. So the words here are those of the map to nothing that both are. Each law
-- below is one that a proof of this repository uses; where the library has it, it speaks of `FinSet` or of maps.
use Rattle.std.proofs.Common.{◌≡◌, ℕ, ◌+◌, ◌≤◌, Bool, true, false, cond, not, ◌&&◌, ◌||◌, List, [], ◌∷◌, ◌++◌, length}
use Rattle.std.proofs.Common.{map, refl, sym, ap, subst, ◌∙◌, arith, Option, Some, None, T}
use Rattle.std.specs.Prelude.{is_some}
use Rattle.std.specs.List.{list_any, filter, IsDistinct, AllByRecursion, dedup, dedup_from}
use Rattle.std.specs.FinMap.Entries.{below_all}
use Rattle.std.specs.Cmp.{IsTotalOrder, Equal-is, both_ways}
use Rattle.std.specs.Ordering.{eq_by_cmp, is_lt}
use Rattle.std.specs.declared.cmp.Ordering.{Ordering}
use Rattle.std.specs.declared.cmp.Ordering.TheVariants.{Less, Equal}
use Rattle.std.specs.FinMap as finite
use Rattle.std.proofs.Math.Bool.{and_comm, and-true, or-true}
use Rattle.std.proofs.lemmas.Cmp.{eq_by_cmp_equiv}
use Rattle.std.proofs.lemmas.Map.Keys.{IsDistinct-head, IsDistinct-tail}
use Rattle.std.proofs.lemmas.Map.Views.{any-filter_same}
use Rattle.std.specs.List.Sorted.{IsStrictlySortedBy, IsSorted, IsPermutation}
use Rattle.std.proofs.lemmas.List.Folds.{list_any-append}
use Rattle.std.proofs.lemmas.List.Kept.{IsStrictlySortedBy-dedup}
use Rattle.std.proofs.lemmas.List.Sorted.{list_any-IsPermutation}
use Rattle.ent_lists.specs.Elements.{all_filtered}
use Rattle.ent_lists.specs.Sets.{Set, empty, contains, insert, retain, len, ascending, insert_all, without_all}
use Rattle.ent_lists.specs.Sets.{from_list}

-- ---- lists

-- what a filter keeps of distinct elements is distinct
pub IsDistinct-filter : {K : Type 0} (e : K → K → Bool) (p : K → Bool) (xs : List K)
    → IsDistinct e xs → IsDistinct e (filter p xs)
unfolding IsDistinct
IsDistinct-filter e p [] h = tt
IsDistinct-filter e p (x ∷ xs) h =
    elim (p x) as (λ b. IsDistinct e (cond b (x ∷ filter p xs) (filter p xs))) [
      | true ↦ (all_filtered (λ y. e x y ≡ false) p xs h.0, IsDistinct-filter e p xs h.1)
      | false ↦ IsDistinct-filter e p xs h.1
    ]

none_passes : {K : Type 0} (p : K → Bool) (xs : List K) → AllByRecursion (λ y. p y ≡ false) xs → list_any p xs ≡ false
none_passes p [] h = refl
none_passes p (x ∷ xs) h = (λ i. h.0 i || list_any p xs) ∙ none_passes p xs h.1

pub any_map : {K J : Type 0} (t : J → Bool) (f : K → J) (ks : List K)
    → list_any t (map f ks) ≡ list_any (λ k. t (f k)) ks
any_map t f [] = refl
any_map t f (k ∷ ks) = ap (λ b. t (f k) || b) (any_map t f ks)

skipped : (a b c : Bool) → (a ≡ true → b ≡ true) → (b || c) ≡ (b || (a || c))
skipped true b c h = ap (λ x. x || c) (h refl) ∙ sym (ap (λ x. x || true) (h refl))
skipped false b c h = refl

module _ {K : Type 0} (E : K → K → Bool) (p : K → Bool)
    (alike : (y x : K) → E y x ≡ true → p y ≡ true → p x ≡ true) where
  any_dedup_from : (x : K) (ks : List K) → list_any p (dedup_from E x ks) ≡ (p x || list_any p ks)
  any_dedup_from x [] = refl
  any_dedup_from x (y ∷ ys) =
      elim (E y x) as (λ b. E y x ≡ b
      → list_any p (cond b (dedup_from E x ys) (x ∷ dedup_from E y ys)) ≡ (p x || (p y || list_any p ys))) [
        | true ↦ λ e. any_dedup_from x ys ∙ skipped (p y) (p x) (list_any p ys) (alike y x e)
        | false ↦ λ e. ap (λ b. p x || b) (any_dedup_from y ys)
      ] refl

  -- what `dedup` leaves passes a test where the list does, if neighbours that count as one pass alike
  any_dedup : (ks : List K) → list_any p (dedup E ks) ≡ list_any p ks
  any_dedup [] = refl
  any_dedup (k ∷ ks) = any_dedup_from k ks

abbrev unit_pairs : {K : Type 0} → List K → List (K × Unit {0})
unit_pairs ks = map (λ k. (k, tt)) ks

abbrev keys_of_pairs : {K : Type 0} → List (K × Unit {0}) → List K
keys_of_pairs es = map (λ e. e.0) es

keys_again : {K : Type 0} (ks : List K) → keys_of_pairs (unit_pairs ks) ≡ ks
keys_again [] = refl
keys_again (k ∷ ks) = ap (λ xs. k ∷ xs) (keys_again ks)

below_all_from : {K : Type 0} (R : K → K → Ordering) (x : K) (ks : List K)
    → AllByRecursion (λ y. R x y ≡ Less) ks → T (below_all R x (unit_pairs ks))
below_all_from R x [] h = tt
below_all_from R x (k ∷ ks) h =
    subst (λ o. T (is_lt o && below_all R x (unit_pairs ks))) (sym h.0) (below_all_from R x ks h.1)

true_from : (b : Bool) → T b → b ≡ true
true_from true h = refl
true_from false h = absurd h

pub is_sorted_from : {K : Type 0} (R : K → K → Ordering) (ks : List K)
    → IsStrictlySortedBy R ks → T (finite.is_sorted R (unit_pairs ks))
unfolding IsStrictlySortedBy
is_sorted_from R [] h = tt
is_sorted_from R (k ∷ ks) h =
    subst (λ b. T (b && finite.is_sorted R (unit_pairs ks))) (sym (true_from _ (below_all_from R k ks h.0)))
    (is_sorted_from R ks h.1)

-- ---- truth values, and what a map to nothing has at a key

or_absorbs : (a b : Bool) → (a ≡ true → b ≡ true) → (a || b) ≡ b
or_absorbs true b h = sym (h refl)
or_absorbs false b h = refl

or_swap : (a b c : Bool) → (a || (b || c)) ≡ ((b || a) || c)
or_swap true true c = refl
or_swap true false c = refl
or_swap false true c = refl
or_swap false false c = refl

and_not : (a b : Bool) → (a && not (b && a)) ≡ (a && not b)
and_not true true = refl
and_not true false = refl
and_not false b = refl

not_either : (a b c : Bool) → ((a && not b) && not c) ≡ (a && not (b || c))
not_either true true c = refl
not_either true false c = refl
not_either false b c = refl

some_or : (b : Bool) (x : Option (Unit {0})) → is_some (cond b (Some tt) x) ≡ (b || is_some x)
some_or true x = refl
some_or false x = refl

some_and : (b : Bool) (x : Option (Unit {0})) → is_some (cond b x None) ≡ (is_some x && b)
some_and true None = refl
some_and true (Some u) = refl
some_and false None = refl
some_and false (Some u) = refl

marks : (x : Option (Unit {0})) → x ≡ cond (is_some x) (Some tt) None
marks None = refl
marks (Some u) = refl

-- ---- what a set contains

module _ {K : Type 0} {R : K → K → Ordering} where
  pub contains-retain : IsTotalOrder R → (s : Set R) (p : K → Bool) (q : K)
      → ((x : K) → R q x ≡ Equal → p x ≡ p q) → contains (retain s p) q ≡ (contains s q && p q)
  contains-retain o s p q alike = ap is_some (finite.get-retain_keys s p q alike) ∙ some_and (p q) _

  pub contains-ascending : (s : Set R) (q : K) → contains s q ≡ list_any (eq_by_cmp R q) (ascending s)
  contains-ascending s q = finite.contains_key-keys s q

pub contains-empty : {K : Type 0} (R : K → K → Ordering) (q : K) → contains (empty {R = R}) q ≡ false
contains-empty R q = ap is_some (finite.get-empty R q)

pub len-empty : {K : Type 0} (R : K → K → Ordering) → len (empty {R = R}) ≡ 0
len-empty R = finite.len-empty R (Unit {0})

module _ {K : Type 0} {R : K → K → Ordering} (o : IsTotalOrder R) (same : finite.IsAntisymmetric R) where
  tied : (q x : K) → eq_by_cmp R q x ≡ true → R q x ≡ Equal
  tied q x h = (Equal-is (R q x)).0 h

  pub same_set : (s t : Set R) → ((q : K) → contains s q ≡ contains t q) → s ≡ t
  same_set s t is =
      finite.same_map o same s t (λ q. marks _ ∙ ap (λ b. cond b (Some tt) None) (is q) ∙ sym (marks _))

  pub contains-insert : (s : Set R) (k q : K) → contains (insert s k) q ≡ (eq_by_cmp R q k || contains s q)
  contains-insert s k q = ap is_some (finite.get-insert o s k tt q) ∙ some_or _ _

  pub contains-from_list : (ks : List K) (q : K) → contains (from_list {R = R} ks) q ≡ list_any (eq_by_cmp R q) ks
  contains-from_list [] q = contains-empty R q
  contains-from_list (k ∷ ks) q = contains-insert _ k q ∙ ap (λ b. eq_by_cmp R q k || b) (contains-from_list ks q)

  -- `contains` of a list, with the arguments of the test the other way round
  pub contains-list : (xs : List K) (q : K) → list_any (λ y. eq_by_cmp R y q) xs ≡ contains (from_list {R = R} xs) q
  contains-list xs q =
      (λ i. list_any (λ y. (eq_by_cmp_equiv o).symm y q i) xs) ∙ sym (contains-from_list xs q)

  pub contains-insert_all : (s : Set R) (ks : List K) (q : K)
      → contains (insert_all s ks) q ≡ (list_any (eq_by_cmp R q) ks || contains s q)
  contains-insert_all s [] q = refl
  contains-insert_all s (k ∷ ks) q =
      contains-insert_all (insert s k) ks q
      ∙ ap (λ b. list_any (eq_by_cmp R q) ks || b) (contains-insert s k q)
      ∙ or_swap (list_any (eq_by_cmp R q) ks) (eq_by_cmp R q k) (contains s q)

  pub contains-without_all : (s : Set R) (ks : List K) (q : K)
      → contains (without_all s ks) q ≡ (contains s q && not (list_any (eq_by_cmp R q) ks))
  contains-without_all s ks q =
      contains-retain o s _ q (λ x e. sym (ap (λ k. not (list_any (eq_by_cmp R k) ks)) (same q x e)))

  pub from_list-ascending : (s : Set R) → from_list (ascending s) ≡ s
  from_list-ascending s =
      same_set _ _ (λ q. contains-from_list (ascending s) q ∙ sym (contains-ascending s q))

  pub insert_there : (s : Set R) (k : K) → contains s k ≡ true → insert s k ≡ s
  insert_there s k h = same_set _ _ (λ q.
      contains-insert s k q
      ∙ or_absorbs _ _ (λ e. sym (ap is_some (finite.get_tied o s q k (tied q k e))) ∙ h))

  -- ---- how many

  pub len-insert : (s : Set R) (k : K) → len (insert s k) ≡ cond (contains s k) (len s) (len s + 1)
  len-insert s k = finite.len-insert o s k tt

  pub len-from_list : (xs : List K) → len (from_list {R = R} xs) ≤ length xs
  len-from_list [] = omega (arith, len-empty R)
  len-from_list (x ∷ xs) =
      let h = len-from_list xs in
      let before : Set R = from_list xs in
      elim (contains before x) as (λ b. len (insert before x) ≡ cond b (len before) (len before + 1)
      → len (insert before x) ≤ length (x ∷ xs)) [
        | true ↦ λ e. omega arith
        | false ↦ λ e. omega arith
      ] (len-insert before x)

  pub len-distinct : (xs : List K) → IsDistinct (eq_by_cmp R) xs → len (from_list {R = R} xs) ≡ length xs
  len-distinct [] d = len-empty R
  len-distinct (x ∷ xs) d =
      let before : ℕ = len (from_list {R = R} xs) in
      let absent : contains (from_list {R = R} xs) x ≡ false =
      contains-from_list xs x ∙ none_passes _ xs (IsDistinct-head _ x xs d) in
      let grown : len (from_list {R = R} (x ∷ xs)) ≡ before + 1 =
      len-insert (from_list xs) x ∙ ap (λ b. cond b before (before + 1)) absent in
      let rest : before ≡ length xs = len-distinct xs (IsDistinct-tail _ x xs d) in
      omega arith

  -- ---- filters

  -- a key is among those that a filter keeps where it is in the set of all and passes
  any-filter : (p : K → Bool) (xs : List K) (q : K)
      → list_any (eq_by_cmp R q) (filter p xs) ≡ (p q && contains (from_list {R = R} xs) q)
  any-filter p xs q =
      any-filter_same (eq_by_cmp R q) p (p q) (λ x e. sym (ap p (same q x (tied q x e)))) xs
      ∙ ap (λ b. p q && b) (sym (contains-from_list xs q))

  pub from_list-filter : (p : K → Bool) (xs : List K) → from_list {R = R} (filter p xs) ≡ retain (from_list xs) p
  from_list-filter p xs = same_set _ _ (λ q.
      contains-from_list (filter p xs) q ∙ any-filter p xs q ∙ and_comm (p q) _
      ∙ sym (contains-retain o (from_list xs) p q (λ x e. sym (ap p (same q x e)))))

  -- those that pass a test, taken out
  pub without-filter : (p : K → Bool) (xs : List K)
      → without_all (from_list {R = R} xs) (filter p xs) ≡ retain (from_list xs) (λ k. not (p k))
  without-filter p xs = same_set _ _ (λ q.
      contains-without_all (from_list xs) (filter p xs) q
      ∙ ap (λ b. contains (from_list {R = R} xs) q && not b) (any-filter p xs q)
      ∙ and_not _ _
      ∙ sym (contains-retain o (from_list xs) (λ k. not (p k)) q (λ x e. sym (ap (λ k. not (p k)) (same q x e)))))

  pub without-nothing : (s : Set R) → without_all s [] ≡ s
  without-nothing s = same_set _ _ (λ q. contains-without_all s [] q ∙ and-true _)

  -- taking out one list and then another
  pub without-append : (s : Set R) (ks ls : List K) → without_all (without_all s ks) ls ≡ without_all s (ks ++ ls)
  without-append s ks ls = same_set _ _ (λ q.
      contains-without_all (without_all s ks) ls q
      ∙ ap (λ b. b && not (list_any (eq_by_cmp R q) ls)) (contains-without_all s ks q)
      ∙ not_either (contains s q) (list_any (eq_by_cmp R q) ks) (list_any (eq_by_cmp R q) ls)
      ∙ ap (λ b. contains s q && not b) (sym (list_any-append (eq_by_cmp R q) ks ls))
      ∙ sym (contains-without_all s (ks ++ ls) q))

  -- a list without those of another, whose test has its arguments the other way round
  pub without-list : (xs ys : List K)
      → from_list {R = R} (filter (λ x. not (list_any (λ y. eq_by_cmp R y x) ys)) xs) ≡ without_all (from_list xs) ys
  without-list xs ys = from_list-filter _ xs ∙ same_set _ _ (λ q.
      contains-retain o (from_list xs) _ q
      (λ x e. sym (ap (λ k. not (list_any (λ y. eq_by_cmp R y k) ys)) (same q x e)))
      ∙ (λ i. contains (from_list {R = R} xs) q && not (list_any (λ y. (eq_by_cmp_equiv o).symm y q i) ys))
      ∙ sym (contains-without_all (from_list xs) ys q))

  -- ---- the elements in order

  -- the elements of the set of a strictly sorted list are that list
  pub ascending-from_list : (xs : List K)
      → T (finite.is_sorted R (unit_pairs xs)) → ascending (from_list {R = R} xs) ≡ xs
  ascending-from_list xs sorted = ap ascending made ∙ in_order
    where
      in_order : ascending (finite.from_sorted {R = R} (unit_pairs xs)) ≡ xs
      in_order = ap keys_of_pairs (finite.entries-from_sorted R (unit_pairs xs) sorted) ∙ keys_again xs

      made : from_list {R = R} xs ≡ finite.from_sorted (unit_pairs xs)
      made = same_set _ _ (λ q.
          contains-from_list xs q
          ∙ sym (contains-ascending (finite.from_sorted (unit_pairs xs)) q ∙ ap (list_any (eq_by_cmp R q)) in_order))

  -- what a sort and a `dedup` leave are the elements in order
  pub ascending-from_sorted : (xs ys : List K) → IsPermutation xs ys → IsSorted R ys
      → dedup (eq_by_cmp R) ys ≡ ascending (from_list {R = R} xs)
  ascending-from_sorted xs ys moved sorted =
      sym (ascending-from_list left (is_sorted_from R left (IsStrictlySortedBy-dedup o (λ x y. refl) ys sorted)))
      ∙ ap ascending (same_set _ _ (λ q.
      contains-from_list left q
      ∙ any_dedup (eq_by_cmp R) (eq_by_cmp R q) (alike q) ys
      ∙ sym (list_any-IsPermutation (eq_by_cmp R q) xs ys moved)
      ∙ sym (contains-from_list xs q)))
    where
      left : List K
      left = dedup (eq_by_cmp R) ys

      alike : (q y x : K) → eq_by_cmp R y x ≡ true → eq_by_cmp R q y ≡ true → eq_by_cmp R q x ≡ true
      alike q y x e h = ap (eq_by_cmp R q) (sym (same y x (tied y x e))) ∙ h

  -- ---- lists of one set

  -- an element of a list that passes
  pub one_passing : (t : K → Bool) (xs : List K) → list_any t xs ≡ true
      → (x : K) × (t x ≡ true) × (list_any (eq_by_cmp R x) xs ≡ true)
  one_passing t [] h = cc
  one_passing t (x ∷ xs) h =
      elim (t x) as (λ b. t x ≡ b → (b || list_any t xs) ≡ true
      → (y : K) × (t y ≡ true) × (list_any (eq_by_cmp R y) (x ∷ xs) ≡ true)) [
        | true ↦ λ tx _. (x, tx, ap (λ b. b || list_any (eq_by_cmp R x) xs) ((eq_by_cmp_equiv o).refl x))
        | false ↦ λ _ rest.
            let w = one_passing t xs rest in
            (w.0, w.1, ap (λ b. eq_by_cmp R w.0 x || b) w.2 ∙ or-true _)
      ] refl h

  -- where an element of a list passes, some element does
  pub passes_where : (t : K → Bool) (x : K) → t x ≡ true → (ys : List K)
      → list_any (eq_by_cmp R x) ys ≡ true → list_any t ys ≡ true
  passes_where t x h [] e = cc
  passes_where t x h (y ∷ ys) e =
      elim (eq_by_cmp R x y) as (λ b. eq_by_cmp R x y ≡ b → (b || list_any (eq_by_cmp R x) ys) ≡ true
      → (t y || list_any t ys) ≡ true) [
        | true ↦ λ xy _. ap (λ b. b || list_any t ys) (ap t (sym (same x y (tied x y xy))) ∙ h)
        | false ↦ λ _ rest. ap (λ b. t y || b) (passes_where t x h ys rest) ∙ or-true _
      ] refl e

  -- lists of one set have the same elements
  pub any_same_set : (t : K → Bool) (xs ys : List K)
      → from_list {R = R} xs ≡ from_list ys → list_any t xs ≡ list_any t ys
  any_same_set t xs ys e = both_ways _ _ (over xs ys e) (over ys xs (sym e))
    where
      over : (xs ys : List K) → from_list {R = R} xs ≡ from_list ys → list_any t xs ≡ true → list_any t ys ≡ true
      over xs ys e h =
          let w = one_passing t xs h in
          passes_where t w.0 w.1 ys
          (sym (contains-from_list ys w.0) ∙ ap (λ s. contains s w.0) (sym e) ∙ contains-from_list xs w.0 ∙ w.2)
