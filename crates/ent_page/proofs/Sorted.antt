-- Lists of keys of which each is below the next.
use Rattle.std.proofs.Common.{◌≡◌, ℕ, zero, suc, ◌+◌, ◌<◌, ◌≤◌, Bool, true, false, List, [], ◌∷◌, ◌++◌, length, take}
use Rattle.std.proofs.Common.{drop, get_or, sym, refl, ap, ◌∙◌, arith}
use Rattle.std.specs.Prelude.{◌||◌, ◌&&◌, not}
use Rattle.std.specs.List.{AllByRecursion, list_any, insert, remove}
use Rattle.std.specs.List.Sorted.{IsStrictlySortedBy}
use Rattle.std.specs.Ordering.{ordering_reverse, eq_by_cmp, is_eq}
use Rattle.std.specs.declared.cmp.Ordering.{Ordering}
use Rattle.std.specs.declared.cmp.Ordering.TheVariants.{Less, Equal, Greater}
use Rattle.std.specs.Cmp.{IsTotalOrder, Equal-is, eq_by_cmp_equiv}
use Rattle.std.proofs.lemmas.Cmp.{nat_list_cmp_total}
use Rattle.std.proofs.lemmas.Map.Lookups.{CmpEqualImpliesEq, exact_bytes}
use Rattle.std.proofs.lemmas.Map.Keys.{Less-from_sorted}
use Rattle.std.proofs.lemmas.Bool.{and_right}
use Rattle.std.proofs.Math.Bool.{and-true}
use Rattle.ent_lists.specs.Sets as set
use Rattle.ent_lists.specs.Laws.{same_set, contains-from_list, contains-insert, contains-without_all}
use Rattle.ent_lists.specs.Elements.{all_by, all_first, all_joined, all_second}
use Rattle.ent_lists.proofs.Truth.{or_swap}
use Rattle.ent_page.specs.Key.{key_cmp}
use Rattle.ent_page.specs.Layout.{Ascends, AreBelow, AreAbove}
use Rattle.ent_page.specs.Paged.{AllBelow, AllAbove}

pub keys_total : IsTotalOrder key_cmp
keys_total = nat_list_cmp_total

pub keys_exact : CmpEqualImpliesEq key_cmp
keys_exact = exact_bytes

pub equal_keys : (q x : List ℕ) → eq_by_cmp key_cmp q x ≡ true → q ≡ x
equal_keys q x h = keys_exact q x ((Equal-is (key_cmp q x)).0 h)

pub nil_sorted : IsStrictlySortedBy key_cmp []
unfolding IsStrictlySortedBy
nil_sorted = tt

pub one_sorted : (key : List ℕ) → IsStrictlySortedBy key_cmp (key ∷ [])
unfolding IsStrictlySortedBy
one_sorted key = (tt, tt)

-- ---- a fact of all elements, by recursion

pub all_drop : {X : Type 0} (P : X → Type 0) (n : ℕ) (xs : List X) → AllByRecursion P xs → AllByRecursion P (drop n xs)
all_drop P zero xs h = h
all_drop P (suc n) [] h = tt
all_drop P (suc n) (x ∷ xs) h = all_drop P n xs h.1

-- ---- order

pub flip : (x y : List ℕ) → key_cmp x y ≡ Greater → key_cmp y x ≡ Less
flip x y h = keys_total.antisymm y x ∙ ap ordering_reverse h

pub flip_less : (x y : List ℕ) → key_cmp x y ≡ Less → key_cmp y x ≡ Greater
flip_less x y h = keys_total.antisymm y x ∙ ap ordering_reverse h

pub sorted_back : (xs ys : List (List ℕ)) → IsStrictlySortedBy key_cmp (xs ++ ys) → IsStrictlySortedBy key_cmp ys
unfolding IsStrictlySortedBy
sorted_back [] ys h = h
sorted_back (x ∷ xs) ys h = sorted_back xs ys h.1

pub sorted_front : (xs ys : List (List ℕ)) → IsStrictlySortedBy key_cmp (xs ++ ys) → IsStrictlySortedBy key_cmp xs
unfolding IsStrictlySortedBy
sorted_front [] ys h = tt
sorted_front (x ∷ xs) ys h = (all_first (λ y. key_cmp x y ≡ Less) xs ys h.0, sorted_front xs ys h.1)

-- those before a key are below it, those behind it above
pub sorted_below : (xs ys : List (List ℕ)) (key : List ℕ) → IsStrictlySortedBy key_cmp (xs ++ key ∷ ys)
    → AllBelow xs key
unfolding IsStrictlySortedBy
sorted_below [] ys key h = tt
sorted_below (x ∷ xs) ys key h =
    ((all_second (λ y. key_cmp x y ≡ Less) xs (key ∷ ys) h.0).0, sorted_below xs ys key h.1)

pub sorted_above : (ys : List (List ℕ)) (key : List ℕ) → IsStrictlySortedBy key_cmp (key ∷ ys) → AllAbove ys key
unfolding IsStrictlySortedBy
sorted_above ys key h = h.0

pub sorted_put : (xs ys : List (List ℕ)) (key : List ℕ) → IsStrictlySortedBy key_cmp (xs ++ ys) → AllBelow xs key
    → AllAbove ys key → IsStrictlySortedBy key_cmp (xs ++ key ∷ ys)
unfolding IsStrictlySortedBy
sorted_put [] ys key h below above = (above, h)
sorted_put (x ∷ xs) ys key h below above =
    let P = λ (y : List ℕ). key_cmp x y ≡ Less in (
      all_joined P xs (key ∷ ys) (all_first P xs ys h.0)
          (below.0, all_second P xs ys h.0),
      sorted_put xs ys key h.1 below.1 above,
    )

pub sorted_cut : (xs ys : List (List ℕ)) (key : List ℕ) → IsStrictlySortedBy key_cmp (xs ++ key ∷ ys)
    → IsStrictlySortedBy key_cmp (xs ++ ys)
unfolding IsStrictlySortedBy
sorted_cut [] ys key h = h.1
sorted_cut (x ∷ xs) ys key h =
    let P = λ (y : List ℕ). key_cmp x y ≡ Less in
    (all_joined P xs ys (all_first P xs (key ∷ ys) h.0) (all_second P xs (key ∷ ys) h.0).1, sorted_cut xs ys key h.1)

-- below a key that is not above another
pub below_more : (xs : List (List ℕ)) (first key : List ℕ) → AllBelow xs first → (key_cmp first key ≡ Greater → ⊥)
    → AllBelow xs key
below_more xs first key below not_above =
    all_by (λ k. key_cmp k first ≡ Less) (λ k. key_cmp k key ≡ Less) xs
    (λ k h. under k h (key_cmp first key) refl) below
  where
    under : (k : List ℕ) → key_cmp k first ≡ Less → (o : Ordering) → key_cmp first key ≡ o → key_cmp k key ≡ Less
    under k h Less e = keys_total.trans k first key h e
    under k h Equal e = ap (key_cmp k) (sym (keys_exact first key e)) ∙ h
    under k h Greater e = absurd (not_above e)

pub above_more : (ys : List (List ℕ)) (first key : List ℕ) → AllAbove ys first → key_cmp key first ≡ Less
    → AllAbove ys key
above_more ys first key above less =
    all_by (λ k. key_cmp first k ≡ Less) (λ k. key_cmp key k ≡ Less) ys
    (λ k h. keys_total.trans key first k less h) above

-- ---- from places

pub ascends : (ks : List (List ℕ)) → IsStrictlySortedBy key_cmp ks → Ascends ks
ascends ks h = λ i j lt within. Less-from_sorted key_cmp ks i j [] h lt within

pub below_taken : (ks : List (List ℕ)) (key : List ℕ) (i : ℕ) → i ≤ length ks → AreBelow ks key i
    → AllBelow (take i ks) key
below_taken ks key zero le h = tt
below_taken [] key (suc i) le h = tt
below_taken (k ∷ ks) key (suc i) le h =
    (h zero (omega arith), below_taken ks key i (omega arith) (λ j lt. h (suc j) (omega arith)))

pub above_left : (ks : List (List ℕ)) (key : List ℕ) (i : ℕ) → AreAbove ks key i → AllAbove (drop i ks) key
above_left [] key zero h = tt
above_left [] key (suc i) h = tt
above_left (k ∷ ks) key zero h = (
  flip k key (h zero (omega arith) (omega arith)),
  above_left ks key zero
      (λ j le lt. h (suc j) (omega arith) (omega arith)),
)
above_left (k ∷ ks) key (suc i) h = above_left ks key i (λ j le lt. h (suc j) (omega arith) (omega arith))

pub inserted_at : (ks : List (List ℕ)) (i : ℕ) (key : List ℕ) → i ≤ length ks
    → insert ks i key ≡ take i ks ++ key ∷ drop i ks
inserted_at ks zero key le = refl
inserted_at [] (suc i) key le = absurd (omega arith)
inserted_at (k ∷ ks) (suc i) key le = ap (λ z. k ∷ z) (inserted_at ks i key (omega arith))

pub removed_at : (ks : List (List ℕ)) (i : ℕ) → i < length ks → remove ks i ≡ take i ks ++ drop (i + 1) ks
removed_at [] i lt = absurd (omega arith)
removed_at (k ∷ ks) zero lt = refl
removed_at (k ∷ ks) (suc i) lt = ap (λ z. k ∷ z) (removed_at ks i (omega arith))
    ∙ ap (λ n. k ∷ (take i ks ++ drop n (k ∷ ks))) (let e : suc (i + 1) ≡ suc i + 1 = omega arith in e)

pub taken_out : (ks : List (List ℕ)) (i : ℕ) (key : List ℕ) → i < length ks → get_or ks i [] ≡ key
    → ks ≡ take i ks ++ key ∷ drop (i + 1) ks
taken_out [] i key lt is = absurd (omega arith)
taken_out (k ∷ ks) zero key lt is = ap (λ z. z ∷ ks) is
taken_out (k ∷ ks) (suc i) key lt is = ap (λ z. k ∷ z) (taken_out ks i key (omega arith) is)
    ∙ ap (λ n. k ∷ (take i ks ++ key ∷ drop n (k ∷ ks))) (let e : suc (i + 1) ≡ suc i + 1 = omega arith in e)

-- ---- as sets

pub any_over : (p : List ℕ → Bool) (xs ys : List (List ℕ)) → list_any p (xs ++ ys) ≡ (list_any p xs || list_any p ys)
any_over p [] ys = refl
any_over p (x ∷ xs) ys = ap (λ b. p x || b) (any_over p xs ys) ∙ assoc (p x) (list_any p xs) (list_any p ys)
  where
    assoc : (a b c : Bool) → (a || (b || c)) ≡ ((a || b) || c)
    assoc true b c = refl
    assoc false b c = refl

any_middle : (p : List ℕ → Bool) (xs ys : List (List ℕ)) (key : List ℕ)
    → list_any p (xs ++ key ∷ ys) ≡ (p key || list_any p (xs ++ ys))
any_middle p xs ys key = any_over p xs (key ∷ ys) ∙ or_swap (list_any p xs) (p key) (list_any p ys)
    ∙ ap (λ b. p key || b) (sym (any_over p xs ys))

pub set_put : (xs ys : List (List ℕ)) (key : List ℕ)
    → set.from_list {R = key_cmp} (xs ++ key ∷ ys) ≡ set.insert (set.from_list (xs ++ ys)) key
set_put xs ys key = same_set keys_total keys_exact _ _ (λ q.
    contains-from_list keys_total keys_exact (xs ++ key ∷ ys) q ∙ any_middle (eq_by_cmp key_cmp q) xs ys key
    ∙ ap (λ b. eq_by_cmp key_cmp q key || b) (sym (contains-from_list keys_total keys_exact (xs ++ ys) q))
    ∙ sym (contains-insert keys_total keys_exact (set.from_list (xs ++ ys)) key q))

pub none_below : (xs : List (List ℕ)) (key : List ℕ) → AllBelow xs key → list_any (eq_by_cmp key_cmp key) xs ≡ false
none_below [] key h = refl
none_below (x ∷ xs) key h = (λ i. is_eq (flip_less x key h.0 i) || list_any (eq_by_cmp key_cmp key) xs)
    ∙ none_below xs key h.1

pub none_above : (ys : List (List ℕ)) (key : List ℕ) → AllAbove ys key → list_any (eq_by_cmp key_cmp key) ys ≡ false
none_above [] key h = refl
none_above (y ∷ ys) key h = (λ i. is_eq (h.0 i) || list_any (eq_by_cmp key_cmp key) ys) ∙ none_above ys key h.1

-- a key that has a gap is not there
pub absent : (xs ys : List (List ℕ)) (key : List ℕ) → AllBelow xs key → AllAbove ys key
    → set.contains (set.from_list {R = key_cmp} (xs ++ ys)) key ≡ false
absent xs ys key below above =
    contains-from_list keys_total keys_exact (xs ++ ys) key ∙ any_over (eq_by_cmp key_cmp key) xs ys
    ∙ (λ i. none_below xs key below i || none_above ys key above i)

pub same_key : (key : List ℕ) → eq_by_cmp key_cmp key key ≡ true
same_key key = (eq_by_cmp_equiv keys_total).refl key

pub present : (xs ys : List (List ℕ)) (key : List ℕ)
    → set.contains (set.from_list {R = key_cmp} (xs ++ key ∷ ys)) key ≡ true
present xs ys key = contains-from_list keys_total keys_exact (xs ++ key ∷ ys) key
    ∙ any_middle (eq_by_cmp key_cmp key) xs ys key
    ∙ ap (λ b. b || list_any (eq_by_cmp key_cmp key) (xs ++ ys)) (same_key key)

apart_or_same : (q key : List ℕ) (b c : Bool) → (eq_by_cmp key_cmp q key ≡ true → c ≡ false)
    → b ≡ (eq_by_cmp key_cmp q key || c) → c ≡ (b && not (eq_by_cmp key_cmp q key || false))
apart_or_same q key b c one is = by (eq_by_cmp key_cmp q key) one is
  where
    by : (e : Bool) → (e ≡ true → c ≡ false) → b ≡ (e || c) → c ≡ (b && not (e || false))
    by true one is = one refl ∙ sym (and_right b false refl)
    by false one is = sym is ∙ sym (and-true b)

pub set_cut : (xs ys : List (List ℕ)) (key : List ℕ) → IsStrictlySortedBy key_cmp (xs ++ key ∷ ys)
    → set.from_list {R = key_cmp} (xs ++ ys) ≡ set.without_all (set.from_list (xs ++ key ∷ ys)) (key ∷ [])
set_cut xs ys key sorted = same_set keys_total keys_exact _ _ (λ q.
    let gone : eq_by_cmp key_cmp q key ≡ true → list_any (eq_by_cmp key_cmp q) (xs ++ ys) ≡ false = λ e.
    let same : q ≡ key = keys_exact q key ((eq_is (key_cmp q key)) e) in
    ap (λ k. list_any (eq_by_cmp key_cmp k) (xs ++ ys)) same ∙ any_over (eq_by_cmp key_cmp key) xs ys
    ∙ (λ i. none_below xs key (sorted_below xs ys key sorted) i || none_above ys key
    (sorted_above ys key (sorted_back xs (key ∷ ys) sorted)) i) in
    contains-from_list keys_total keys_exact (xs ++ ys) q
    ∙ apart_or_same q key (list_any (eq_by_cmp key_cmp q) (xs ++ key ∷ ys)) (list_any (eq_by_cmp key_cmp q) (xs ++ ys))
    gone (any_middle (eq_by_cmp key_cmp q) xs ys key)
    ∙ sym (contains-without_all keys_total keys_exact (set.from_list (xs ++ key ∷ ys)) (key ∷ []) q
    ∙ ap (λ b. b && not (eq_by_cmp key_cmp q key || false))
    (contains-from_list keys_total keys_exact (xs ++ key ∷ ys) q)))
  where
    eq_is : (o : Ordering) → is_eq o ≡ true → o ≡ Equal
    eq_is Equal h = refl
    eq_is Less h = absurd cc
    eq_is Greater h = absurd cc

-- a key that isn't there is taken out
pub set_kept : (s : set.Set key_cmp) (key : List ℕ) → set.contains s key ≡ false → s ≡ set.without_all s (key ∷ [])
set_kept s key none = same_set keys_total keys_exact _ _ (λ q.
    by (set.contains s q) (eq_by_cmp key_cmp q key)
    (λ e. ap (set.contains s) (keys_exact q key ((eq_is (key_cmp q key)) e)) ∙ none)
    ∙ sym (contains-without_all keys_total keys_exact s (key ∷ []) q))
  where
    eq_is : (o : Ordering) → is_eq o ≡ true → o ≡ Equal
    eq_is Equal h = refl
    eq_is Less h = absurd cc
    eq_is Greater h = absurd cc

    by : (c e : Bool) → (e ≡ true → c ≡ false) → c ≡ (c && not (e || false))
    by c true one = one refl ∙ sym (and_right c false refl)
    by c false one = sym (and-true c)
