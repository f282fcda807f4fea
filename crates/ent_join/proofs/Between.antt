-- Rows that begin alike lie side by side.
use Rattle.std.proofs.Common.{◌≡◌, ℕ, zero, suc, ◌-◌, ◌<◌, ◌≤◌, Bool, true, false, cond, List, [], ◌∷◌, length}
use Rattle.std.proofs.Common.{take, drop, get_or, Option, Some, None, refl, sym, ap, subst, ◌∙◌, arith, inl, inr}
use Rattle.std.specs.Prelude.{◌==◌, ◌||◌, not, slice_get}
use Rattle.std.specs.List.{AllByRecursion, filter, list_any}
use Rattle.std.specs.List.Sorted.{IsStrictlySortedBy, IsPartitionedBy}
use Rattle.std.specs.Option.{option_map}
use Rattle.std.specs.Ordering.{is_eq, is_le, is_lt, ordering_then, ordering_reverse}
use Rattle.std.specs.declared.cmp.Ordering.{Ordering}
use Rattle.std.specs.declared.cmp.Ordering.TheVariants.{Less, Equal, Greater}
use Rattle.std.proofs.lemmas.Bool.{cases_order, eq-eqb}
use Rattle.std.proofs.lemmas.Bool.Decides.{eqb_tells}
use Rattle.std.proofs.lemmas.Map.Keys.{Less-from_sorted}
use Rattle.ent_lists.specs.Elements.{all_filtered, other_number}
use Rattle.ent_value.specs.Value.{value_cmp, row_cmp}
use Rattle.ent_value.specs.Order.{values_total, exact_values}
use Rattle.ent_value.specs.declared.value.Value.{Value}
use Rattle.ent_join.specs.Index.{known_cmp, begun_cmp, column_of}

-- ---- the column of a class

pub column_found : (class : ℕ) (classes : List ℕ) (column : ℕ)
    → ((k : ℕ) → k < column → get_or classes k 0 ≡ class → ⊥)
    → column < length classes → get_or classes column 0 ≡ class
    → column_of class classes ≡ Some column
column_found class [] column before within is = absurd (omega arith)
column_found class (other ∷ classes) zero before within is =
    ap (λ b. cond b (Some 0) (option_map suc (column_of class classes))) (eq-eqb other class is)
column_found class (other ∷ classes) (suc column) before within is =
    ap (λ b. cond b (Some 0) (option_map suc (column_of class classes)))
    (other_number other class (before 0 (omega arith)))
    ∙ ap (option_map suc)
    (column_found class classes column (λ k h. before (suc k) (omega arith)) (omega arith) is)

pub column_not_found : (class : ℕ) (classes : List ℕ)
    → ((k : ℕ) → k < length classes → get_or classes k 0 ≡ class → ⊥)
    → column_of class classes ≡ None
column_not_found class [] before = refl
column_not_found class (other ∷ classes) before =
    ap (λ b. cond b (Some 0) (option_map suc (column_of class classes)))
    (other_number other class (before 0 (omega arith)))
    ∙ ap (option_map suc) (column_not_found class classes (λ k h. before (suc k) (omega arith)))

-- ---- rows in order

abbrev NotAbove : Ordering → Ordering → Type 0
NotAbove Less p = Unit {0}
NotAbove Equal Less = ⊥
NotAbove Equal Equal = Unit {0}
NotAbove Equal Greater = Unit {0}
NotAbove Greater Less = ⊥
NotAbove Greater Equal = ⊥
NotAbove Greater Greater = Unit {0}

below_greater : (o : Ordering) → NotAbove o Greater
below_greater Less = tt
below_greater Equal = tt
below_greater Greater = tt

then_alike : (o p q : Ordering) → NotAbove p q → NotAbove (ordering_then o p) (ordering_then o q)
then_alike Less p q h = tt
then_alike Equal p q h = h
then_alike Greater p q h = tt

-- a greater value is above what a lesser one isn't below
value_above : (x y known : Value) (o : Ordering) (p q : Ordering) → value_cmp x y ≡ Less → value_cmp x known ≡ o
    → NotAbove (ordering_then o p) (ordering_then (value_cmp y known) q)
value_above x y known Less p q less e = tt
value_above x y known Equal p q less e =
    let up : value_cmp y known ≡ Greater =
    ap (value_cmp y) (sym (exact_values x known e)) ∙ values_total.antisymm y x ∙ ap ordering_reverse less in
    subst (λ o. NotAbove p (ordering_then o q)) (sym up) (below_greater p)
value_above x y known Greater p q less e =
    let down : value_cmp known x ≡ Less = values_total.antisymm known x ∙ ap ordering_reverse e in
    let up : value_cmp y known ≡ Greater =
    values_total.antisymm y known ∙ ap ordering_reverse (values_total.trans known x y down less) in
    subst (λ o. NotAbove Greater (ordering_then o q)) (sym up) tt

begun_in_order : (beginning : List Value) (classes : List ℕ) (row other : List Value)
    → length row ≡ length classes → length other ≡ length classes → row_cmp row other ≡ Less
    → NotAbove (begun_cmp beginning classes row) (begun_cmp beginning classes other)
begun_in_order beginning [] row other wide wide' less = tt
begun_in_order beginning (class ∷ classes) [] other wide wide' less = absurd (omega arith)
begun_in_order beginning (class ∷ classes) (x ∷ row) [] wide wide' less = absurd (omega arith)
begun_in_order beginning (class ∷ classes) (x ∷ row) (y ∷ other) wide wide' less =
    by (λ h. begun_in_order beginning classes row other (omega arith) (omega arith) h) (slice_get beginning class)
  where
    Claim : Value → Type 0
    Claim known = NotAbove (ordering_then (value_cmp x known) (begun_cmp beginning classes row))
        (ordering_then (value_cmp y known) (begun_cmp beginning classes other))

    first : (known : Value) → (row_cmp row other ≡ Less
        → NotAbove (begun_cmp beginning classes row) (begun_cmp beginning classes other))
        → (o : Ordering) → value_cmp x y ≡ o → ordering_then o (row_cmp row other) ≡ Less
        → NotAbove (ordering_then (value_cmp x known) (begun_cmp beginning classes row))
        (ordering_then (value_cmp y known) (begun_cmp beginning classes other))
    first known more Less e h =
        value_above x y known (value_cmp x known) (begun_cmp beginning classes row)
        (begun_cmp beginning classes other) e
        refl
    first known more Equal e h =
        subst (λ v. NotAbove (ordering_then (value_cmp x known) (begun_cmp beginning classes row))
        (ordering_then (value_cmp v known) (begun_cmp beginning classes other))) (exact_values x y e)
        (then_alike (value_cmp x known) (begun_cmp beginning classes row) (begun_cmp beginning classes other) (more h))
    first known more Greater e h = cc

    by : (row_cmp row other ≡ Less
        → NotAbove (begun_cmp beginning classes row) (begun_cmp beginning classes other))
        → (known : Option Value)
        → NotAbove (known_cmp known x (begun_cmp beginning classes row))
        (known_cmp known y (begun_cmp beginning classes other))
    by more None = tt
    by more (Some known) = first known more (value_cmp x y) refl less

lt_below : (o p : Ordering) → NotAbove o p → is_lt p ≡ true → is_lt o ≡ true
lt_below Less p h e = refl
lt_below Equal Less h e = absurd h
lt_below Equal Equal h e = cc
lt_below Equal Greater h e = cc
lt_below Greater Less h e = absurd h
lt_below Greater Equal h e = absurd h
lt_below Greater Greater h e = cc

le_below : (o p : Ordering) → NotAbove o p → is_le p ≡ true → is_le o ≡ true
le_below Less p h e = refl
le_below Equal p h e = refl
le_below Greater Less h e = absurd h
le_below Greater Equal h e = absurd h
le_below Greater Greater h e = cc

all_at : {X : Type 0} (P : X → Type 0) (xs : List X) (i : ℕ) (d : X) → AllByRecursion P xs → i < length xs
    → P (get_or xs i d)
all_at P [] i d h lt = absurd (omega arith)
all_at P (x ∷ xs) zero d h lt = h.0
all_at P (x ∷ xs) (suc i) d h lt = all_at P xs i d h.1 (omega arith)

module _ (beginning : List Value) (classes : List ℕ) (rows : List (List Value))
    (sorted : IsStrictlySortedBy row_cmp rows)
    (widths : AllByRecursion (λ row. length row ≡ length classes) rows) where
  in_order : (i j : ℕ) (d : List Value) → i < j → j < length rows
      → NotAbove (begun_cmp beginning classes (get_or rows i d)) (begun_cmp beginning classes (get_or rows j d))
  in_order i j d h l =
      begun_in_order beginning classes (get_or rows i d) (get_or rows j d)
      (all_at (λ row. length row ≡ length classes) rows i d widths (omega arith))
      (all_at (λ row. length row ≡ length classes) rows j d widths l)
      (Less-from_sorted row_cmp rows i j d sorted h l)

  pub partitioned_lt : IsPartitionedBy (λ row. is_lt (begun_cmp beginning classes row)) rows
  partitioned_lt i j d h l e =
      elim (eqb_tells i j) [
        | inl same ↦ subst (λ k. is_lt (begun_cmp beginning classes (get_or rows k d)) ≡ true) (sym same.1) e
        | inr other ↦
            let less : i < j = let f = other.1 in omega (arith, f) in
            lt_below _ (begun_cmp beginning classes (get_or rows j d)) (in_order i j d less l) e
      ]

  pub partitioned_le : IsPartitionedBy (λ row. is_le (begun_cmp beginning classes row)) rows
  partitioned_le i j d h l e =
      elim (eqb_tells i j) [
        | inl same ↦ subst (λ k. is_le (begun_cmp beginning classes (get_or rows k d)) ≡ true) (sym same.1) e
        | inr other ↦
            let less : i < j = let f = other.1 in omega (arith, f) in
            le_below _ (begun_cmp beginning classes (get_or rows j d)) (in_order i j d less l) e
      ]

-- ---- what lies between

eq_from : (o : Ordering) → is_lt o ≡ false → is_le o ≡ true → is_eq o ≡ true
eq_from Less e f = cc
eq_from Equal e f = refl
eq_from Greater e f = cc

not_eq_lt : (o : Ordering) → is_lt o ≡ true → is_eq o ≡ false
not_eq_lt Less e = refl
not_eq_lt Equal e = cc
not_eq_lt Greater e = cc

not_eq_gt : (o : Ordering) → is_le o ≡ false → is_eq o ≡ false
not_eq_gt Less e = cc
not_eq_gt Equal e = cc
not_eq_gt Greater e = refl

lt_is_le : (o : Ordering) → is_lt o ≡ true → is_le o ≡ true
lt_is_le Less e = refl
lt_is_le Equal e = cc
lt_is_le Greater e = cc

module _ {X : Type 0} (o : X → Ordering) where
  none_left : (xs : List X) → ((k : ℕ) (d : X) → k < length xs → is_le (o (get_or xs k d)) ≡ false)
      → filter (λ x. is_eq (o x)) xs ≡ []
  none_left [] h = refl
  none_left (x ∷ xs) h =
      ap (λ b. cond b (x ∷ filter (λ x. is_eq (o x)) xs) (filter (λ x. is_eq (o x)) xs))
      (not_eq_gt (o x) (h 0 x (omega arith)))
      ∙ none_left xs (λ k d l. h (suc k) d (omega arith))

  pub in_order_of_points : (xs : List X) (start end : ℕ)
      → ((k : ℕ) (d : X) → k < start → is_lt (o (get_or xs k d)) ≡ true)
      → ((k : ℕ) (d : X) → end ≤ k → k < length xs → is_le (o (get_or xs k d)) ≡ false)
      → start ≤ length xs → (d : X) → start ≤ end
  in_order_of_points xs start end before after within d =
      elim (cases_order end start) [
        | inl same ↦ omega arith
        | inr (inl less) ↦
            let e : is_le (o (get_or xs end d)) ≡ true = lt_is_le (o (get_or xs end d)) (before end d less) in
            let f : is_le (o (get_or xs end d)) ≡ false = after end d (omega arith) (omega arith) in
            absurd cc
        | inr (inr more) ↦ omega arith
      ]

  pub between : (xs : List X) (start end : ℕ)
      → ((k : ℕ) (d : X) → k < start → is_lt (o (get_or xs k d)) ≡ true)
      → ((k : ℕ) (d : X) → start ≤ k → k < length xs → is_lt (o (get_or xs k d)) ≡ false)
      → ((k : ℕ) (d : X) → k < end → is_le (o (get_or xs k d)) ≡ true)
      → ((k : ℕ) (d : X) → end ≤ k → k < length xs → is_le (o (get_or xs k d)) ≡ false)
      → start ≤ length xs → end ≤ length xs
      → take (end - start) (drop start xs) ≡ filter (λ x. is_eq (o x)) xs
  between [] start end lt nlt le nle s e =
      let z : start ≡ 0 = omega arith in
      let w : end ≡ 0 = omega arith in
      ap (λ k. take (end - k) (drop k [])) z ∙ ap (λ k. take (k - 0) []) w
  between (x ∷ xs) zero zero lt nlt le nle s e =
      sym (none_left (x ∷ xs) (λ k d l. nle k d (omega arith) l))
  between (x ∷ xs) zero (suc end) lt nlt le nle s e =
      ap (λ k. take k (x ∷ xs)) (let z : suc end - 0 ≡ suc end = omega arith in z)
      ∙ (ap (λ k. x ∷ take k xs) (let z : end ≡ end - 0 = omega arith in z)
      ∙ (ap (λ ys. x ∷ ys) (between xs zero end (λ k d l. absurd (omega arith))
      (λ k d l m. nlt (suc k) d (omega arith) (omega arith)) (λ k d l. le (suc k) d (omega arith))
      (λ k d l m. nle (suc k) d (omega arith) (omega arith)) (omega arith) (omega arith))
      ∙ ap (λ b. cond b (x ∷ filter (λ x. is_eq (o x)) xs) (filter (λ x. is_eq (o x)) xs))
      (sym (eq_from (o x) (nlt 0 x (omega arith) (omega arith)) (le 0 x (omega arith))))))
  between (x ∷ xs) (suc start) zero lt nlt le nle s e =
      let f : is_le (o x) ≡ true = lt_is_le (o x) (lt 0 x (omega arith)) in
      let g : is_le (o x) ≡ false = nle 0 x (omega arith) (omega arith) in
      absurd cc
  between (x ∷ xs) (suc start) (suc end) lt nlt le nle s e =
      ap (λ k. take k (drop start xs)) (let z : suc end - suc start ≡ end - start = omega arith in z)
      ∙ (between xs start end (λ k d l. lt (suc k) d (omega arith))
      (λ k d l m. nlt (suc k) d (omega arith) (omega arith)) (λ k d l. le (suc k) d (omega arith))
      (λ k d l m. nle (suc k) d (omega arith) (omega arith)) (omega arith) (omega arith)
      ∙ ap (λ b. cond b (x ∷ filter (λ x. is_eq (o x)) xs) (filter (λ x. is_eq (o x)) xs))
      (sym (not_eq_lt (o x) (lt 0 x (omega arith)))))

any_kept : {X : Type 0} (p : X → Bool) (xs : List X) → not (length (filter p xs) == 0) ≡ list_any p xs
any_kept p [] = refl
any_kept p (x ∷ xs) = by (any_kept p xs) (p x)
  where
    by : not (length (filter p xs) == 0) ≡ list_any p xs → (b : Bool)
        → not (length (cond b (x ∷ filter p xs) (filter p xs)) == 0) ≡ (b || list_any p xs)
    by more true = let z : (length (x ∷ filter p xs) == 0) ≡ false = other_number _ 0 (λ e. omega arith) in ap not z
    by more false = more

pub any_from_filter : {X : Type 0} (p : X → Bool) (xs ys : List X) (n : Bool) → ys ≡ filter p xs
    → n ≡ (length ys == 0) → not n ≡ list_any p xs
any_from_filter p xs ys n e is = ap not (is ∙ ap (λ zs. length zs == 0) e) ∙ any_kept p xs

pub all_of_filter : {X : Type 0} (P : X → Type 0) (p : X → Bool) (xs ys : List X) → AllByRecursion P xs
    → ys ≡ filter p xs → AllByRecursion P ys
all_of_filter P p xs ys all is = subst (AllByRecursion P) (sym is) (all_filtered P p xs all)
