-- An index of keys has just the values under which a tuple is a row.
use Rattle.std.proofs.Common.{◌≡◌, ℕ, zero, suc, ◌<◌, Bool, true, false, cond, List, [], ◌∷◌, length, map}
use Rattle.std.proofs.Common.{Option, Some, None}
use Rattle.std.proofs.Common.{refl, sym, ap, subst, ◌∙◌, arith}
use Rattle.std.specs.Prelude.{◌==◌, ◌||◌, ◌&&◌, nat_lt, slice_get, slice_index_or, unwrap_or}
use Rattle.std.specs.List.{AllByRecursion, list_any}
use Rattle.std.specs.Cmp.{Equal-is, both_ways}
use Rattle.std.specs.Ordering.{eq_by_cmp, is_eq, nat_cmp, ordering_then}
use Rattle.std.proofs.lemmas.Cmp.{nat_cmp_total}
use Rattle.ent_lists.specs.Sets as set
use Rattle.ent_lists.specs.Laws.{any_same_set, from_list-ascending}
use Rattle.std.specs.declared.cmp.Ordering.TheVariants.{Less, Equal, Greater}
use Rattle.std.proofs.lemmas.Bool.{eq-eqb, eqb-true}
use Rattle.std.proofs.lemmas.Cmp.{eq_by_cmp_equiv}
use borrow.Author.Tests.{ltb-true, lt-ltb}
use Rattle.std.proofs.Math.Dec.{eqb}
use Rattle.ent_lists.specs.Elements.{and_both}
use Rattle.ent_lists.proofs.Orders.{equal_then, is_equal}
use Rattle.ent_value.specs.Value.{value_cmp, row_cmp}
use Rattle.ent_value.specs.Order.{exact_values, rows_total, exact_rows}
use Rattle.ent_value.specs.declared.value.Value.{Value}
use Rattle.ent_rel.proofs.Keyed.{elements_ascend}
use Rattle.ent_semantics.specs.Term.{no_value}
use Rattle.ent_plan.specs.Plan.{slot_value}
use Rattle.ent_plan.specs.declared.slot.Slot.{Slot}
use Rattle.ent_plan.specs.declared.slot.Slot.TheVariants.{Fixed, Class}
use Rattle.ent_join.specs.Index.{known_cmp, begun_cmp, begins_so}
use Rattle.ent_join.specs.Keyed.{class_numbers, value_under, is_found, agree, key_under, keys_under}
use Rattle.ent_join.specs.Keyed.{IsIndexOf, ascending_classes, index_under}
use Rattle.ent_join.proofs.Begun.{get_there}
use Rattle.ent_join.proofs.Deduped.{all_alike, all_members, all_map}
use Rattle.ent_join.proofs.Steps.{value_cmp-self}

-- the value of a class
abbrev worth : List Value → ℕ → Value
worth values number = slice_index_or values number no_value

worth_there : (values : List Value) (number : ℕ) (v : Value) → slice_get values number ≡ Some v
    → worth values number ≡ v
worth_there [] number v h = cc
worth_there (w ∷ values) zero v h = cc
worth_there (w ∷ values) (suc number) v h = worth_there values number v h

abbrev pub IsBelow : List Value → ℕ → Type 0
IsBelow values number = number < length values

module _ (values : List Value) (columns : List Slot) (row : List Value) where
  abbrev Has : ℕ → Type 0
  Has number = is_eq (value_cmp (unwrap_or (value_under number columns row) no_value) (worth values number)) ≡ true

  -- ---- a key with these values

  begun_has : (classes : List ℕ) → AllByRecursion (IsBelow values) classes
      → begun_cmp values classes (key_under columns row classes) ≡ Equal
      → AllByRecursion Has classes
  begun_has [] below h = tt
  begun_has (number ∷ classes) below h =
      let there = get_there values number below.0 in
      let v = unwrap_or (value_under number columns row) no_value in
      let k = equal_then (value_cmp v there.0) (begun_cmp values classes (key_under columns row classes))
      (subst (λ o. known_cmp o v (begun_cmp values classes (key_under columns row classes)) ≡ Equal) there.1 h) in
      (ap is_eq (ap (value_cmp v) (worth_there values number there.0 there.1) ∙ k.0), begun_has classes below.1 k.1)

  agree_is : (slots : List Slot) (vs : List Value) → AllByRecursion Has (class_numbers slots)
      → agree columns row slots vs ≡ true → map (slot_value values) slots ≡ vs
  agree_is [] [] has h = refl
  agree_is [] (v ∷ vs) has h = cc
  agree_is (slot ∷ slots) [] has h = cc
  agree_is (Fixed known ∷ slots) (v ∷ vs) has h =
      let k = and_both (is_eq (value_cmp known v)) (agree columns row slots vs) h in
      ap (λ w. w ∷ map (slot_value values) slots) (exact_values known v (is_equal _ k.0))
      ∙ ap (λ ws. v ∷ ws) (agree_is slots vs has k.1)
  agree_is (Class number ∷ slots) (v ∷ vs) has h =
      let k = and_both (is_found (value_under number columns row) v) (agree columns row slots vs) h in
      ap (λ w. w ∷ map (slot_value values) slots) (found (value_under number columns row) has.0 k.0)
      ∙ ap (λ ws. v ∷ ws) (agree_is slots vs has.1 k.1)
    where
      found : (o : Option Value) → is_eq (value_cmp (unwrap_or o no_value) (worth values number)) ≡ true
          → is_found o v ≡ true → worth values number ≡ v
      found None e f = cc
      found (Some w) e f =
          sym (exact_values w (worth values number) (is_equal _ e)) ∙ exact_values w v (is_equal _ f)

  -- ---- a row with these values

  abbrev Stands : ℕ → Type 0
  Stands number = is_found (value_under number columns row) (worth values number) ≡ true

  stands_agree : (slots : List Slot) → AllByRecursion Stands (class_numbers slots)
      → agree columns row slots (map (slot_value values) slots) ≡ true
  stands_agree [] all = refl
  stands_agree (Fixed known ∷ slots) all =
      ap (λ o. is_eq o && agree columns row slots (map (slot_value values) slots)) (value_cmp-self known)
      ∙ stands_agree slots all
  stands_agree (Class number ∷ slots) all =
      ap (λ b. b && agree columns row slots (map (slot_value values) slots)) all.0 ∙ stands_agree slots all.1

  stands_begun : (classes : List ℕ) → AllByRecursion Stands classes
      → begun_cmp values classes (key_under columns row classes) ≡ Equal
  stands_begun [] all = refl
  stands_begun (number ∷ classes) all = by (slice_get values number) refl (stands_begun classes all.1)
    where
      is_worth : (o : Option Value) → is_found o (worth values number) ≡ true
          → unwrap_or o no_value ≡ worth values number
      is_worth None e = cc
      is_worth (Some w) e = exact_values w (worth values number) (is_equal _ e)

      by : (o : Option Value) → slice_get values number ≡ o
          → begun_cmp values classes (key_under columns row classes) ≡ Equal
          → known_cmp o (unwrap_or (value_under number columns row) no_value)
          (begun_cmp values classes (key_under columns row classes)) ≡ Equal
      by None e more = refl
      by (Some w) e more =
          let same : unwrap_or (value_under number columns row) no_value ≡ w =
          is_worth (value_under number columns row) all.0 ∙ worth_there values number w e in
          let tie : value_cmp (unwrap_or (value_under number columns row) no_value) w ≡ Equal =
          ap (λ v. value_cmp v w) same ∙ value_cmp-self w in
          ap (λ o. ordering_then o (begun_cmp values classes (key_under columns row classes))) tie ∙ more

-- the first column of a class has its value
column_stands : (values : List Value) (number : ℕ) (columns : List Slot)
    → list_any (λ m. m == number) (class_numbers columns) ≡ true
    → is_found (value_under number columns (map (slot_value values) columns)) (worth values number) ≡ true
column_stands values number [] h = cc
column_stands values number (Fixed known ∷ columns) h = column_stands values number columns h
column_stands values number (Class other ∷ columns) h =
    by (other == number) refl (λ k. column_stands values number columns k) h
  where
    by : (b : Bool) → (other == number) ≡ b
        → (list_any (λ m. m == number) (class_numbers columns) ≡ true
        → is_found (value_under number columns (map (slot_value values) columns)) (worth values number) ≡ true)
        → (b || list_any (λ m. m == number) (class_numbers columns)) ≡ true
        → is_found (cond b (Some (worth values other)) (value_under number columns (map (slot_value values) columns)))
        (worth values number) ≡ true
    by true e more h =
        let same : other ≡ number = eqb-true other number e in
        ap is_eq (ap (λ n. value_cmp (worth values n) (worth values number)) same
        ∙ value_cmp-self (worth values number))
    by false e more h = more h

module _ (values : List Value) (columns : List Slot) (classes : List ℕ)
    (alike : (test : ℕ → Bool) → list_any test classes ≡ list_any test (class_numbers columns))
    (below : AllByRecursion (IsBelow values) (class_numbers columns)) where
  abbrev tuple : List Value
  tuple = map (slot_value values) columns

  tie : (row : List Value) → eq_by_cmp row_cmp tuple row ≡ true → tuple ≡ row
  tie row h = exact_rows tuple row ((Equal-is (row_cmp tuple row)).0 h)

  same : (row : List Value) → tuple ≡ row → eq_by_cmp row_cmp tuple row ≡ true
  same row e = ap (eq_by_cmp row_cmp tuple) (sym e) ∙ (eq_by_cmp_equiv rows_total).refl tuple

  pub classes_below : AllByRecursion (IsBelow values) classes
  classes_below =
      all_map (λ n. nat_lt n (length values) ≡ true) (IsBelow values) (λ n h. ltb-true n (length values) h) classes
      (all_alike classes (class_numbers columns) alike (λ n. nat_lt n (length values))
      (all_map (IsBelow values) (λ n. nat_lt n (length values) ≡ true) (λ n h. lt-ltb n (length values) h)
      (class_numbers columns) below))

  back : (test : ℕ → Bool) → AllByRecursion (λ n. test n ≡ true) classes
      → AllByRecursion (λ n. test n ≡ true) (class_numbers columns)
  back test all = all_alike (class_numbers columns) classes (λ t. sym (alike t)) test all

  columns_stand : (row : List Value) → tuple ≡ row → AllByRecursion (Stands values columns row) (class_numbers columns)
  columns_stand row e =
      subst (λ r. AllByRecursion (Stands values columns r) (class_numbers columns)) e
      (all_members (Stands values columns tuple) (class_numbers columns)
      (λ n h. column_stands values n columns h))

  stands : (row : List Value) → tuple ≡ row → AllByRecursion (Stands values columns row) classes
  stands row e =
      all_alike classes (class_numbers columns) alike (λ n. is_found (value_under n columns row) (worth values n))
      (columns_stand row e)

  -- a row that agrees with the columns has a key that begins so where it is the tuple
  key_begins : (row : List Value) → agree columns row columns row ≡ true
      → begins_so values classes (key_under columns row classes) ≡ eq_by_cmp row_cmp tuple row
  key_begins row agrees =
      both_ways _ _
      (λ h. same row (agree_is values columns row columns row
      (back (λ n. is_eq (value_cmp (unwrap_or (value_under n columns row) no_value) (worth values n)))
      (begun_has values columns row classes classes_below (is_equal _ h))) agrees))
      (λ h. ap is_eq (stands_begun values columns row classes (stands row (tie row h))))

  no_key : (row : List Value) → agree columns row columns row ≡ false → eq_by_cmp row_cmp tuple row ≡ false
  no_key row e = by (eq_by_cmp row_cmp tuple row) refl
    where
      by : (b : Bool) → eq_by_cmp row_cmp tuple row ≡ b → eq_by_cmp row_cmp tuple row ≡ false
      by false h = h
      by true h =
          let is : tuple ≡ row = tie row h in
          let agrees : agree columns row columns tuple ≡ true =
          stands_agree values columns row columns (columns_stand row is) in
          let f : agree columns row columns row ≡ true = ap (agree columns row columns) (sym is) ∙ agrees in
          absurd cc

  pub keys_have : (rows : List (List Value))
      → list_any (begins_so values classes) (keys_under columns classes rows)
      ≡ list_any (eq_by_cmp row_cmp tuple) rows
  keys_have [] = refl
  keys_have (row ∷ rows) = by (agree columns row columns row) refl (keys_have rows)
    where
      by : (b : Bool) → agree columns row columns row ≡ b
          → list_any (begins_so values classes) (keys_under columns classes rows)
          ≡ list_any (eq_by_cmp row_cmp tuple) rows
          → list_any (begins_so values classes)
          (cond b (key_under columns row classes ∷ keys_under columns classes rows) (keys_under columns classes rows))
          ≡ (eq_by_cmp row_cmp tuple row || list_any (eq_by_cmp row_cmp tuple) rows)
      by true e more =
          ap (λ b. b || list_any (begins_so values classes) (keys_under columns classes rows)) (key_begins row e)
          ∙ ap (λ b. eq_by_cmp row_cmp tuple row || b) more
      by false e more = more ∙ ap (λ b. b || list_any (eq_by_cmp row_cmp tuple) rows) (sym (no_key row e))

key_width : (columns : List Slot) (row : List Value) (classes : List ℕ)
    → length (key_under columns row classes) ≡ length classes
key_width columns row [] = refl
key_width columns row (number ∷ classes) = ap suc (key_width columns row classes)

-- the keys of rows have a value for each class
pub keys_are_wide : (columns : List Slot) (classes : List ℕ) (rows : List (List Value))
    → AllByRecursion (λ key. (length key == length classes) ≡ true) (keys_under columns classes rows)
keys_are_wide columns classes [] = tt
keys_are_wide columns classes (row ∷ rows) = by (agree columns row columns row) (keys_are_wide columns classes rows)
  where
    by : (b : Bool) → AllByRecursion (λ key. (length key == length classes) ≡ true) (keys_under columns classes rows)
        → AllByRecursion (λ key. (length key == length classes) ≡ true)
        (cond b (key_under columns row classes ∷ keys_under columns classes rows) (keys_under columns classes rows))
    by true more = (eq-eqb _ _ (key_width columns row classes), more)
    by false more = more

-- rows of which the same is true as of these keys have a value for each class
pub wide_alike : (columns : List Slot) (classes : List ℕ) (rows left : List (List Value))
    → ((test : List Value → Bool) → list_any test left ≡ list_any test (keys_under columns classes rows))
    → AllByRecursion (λ key. length key ≡ length classes) left
wide_alike columns classes rows left alike =
    all_map (λ key. (length key == length classes) ≡ true) (λ key. length key ≡ length classes)
    (λ key h. eqb-true (length key) (length classes) h) left
    (all_alike left (keys_under columns classes rows) alike (λ key. length key == length classes)
    (keys_are_wide columns classes rows))

-- ---- the index of keys

pub nat_exact : (x y : ℕ) → nat_cmp x y ≡ Equal → x ≡ y
nat_exact x y h = by (nat_lt x y) h
  where
    by_equal : (b : Bool) → (x == y) ≡ b → cond b Equal Greater ≡ Equal → x ≡ y
    by_equal true e h = eqb-true x y e
    by_equal false e h = cc

    by : (b : Bool) → cond b Less (cond (x == y) Equal Greater) ≡ Equal → x ≡ y
    by true h = cc
    by false h = by_equal (x == y) refl h

pub classes_alike : (columns : List Slot) (test : ℕ → Bool)
    → list_any test (ascending_classes columns) ≡ list_any test (class_numbers columns)
classes_alike columns test =
    any_same_set nat_cmp_total nat_exact test (ascending_classes columns) (class_numbers columns)
    (from_list-ascending nat_cmp_total nat_exact (set.from_list (class_numbers columns)))

pub keys_alike : (keys : List (List Value)) (test : List Value → Bool)
    → list_any test (set.ascending (set.from_list {R = row_cmp} keys)) ≡ list_any test keys
keys_alike keys test =
    any_same_set rows_total exact_rows test (set.ascending (set.from_list {R = row_cmp} keys)) keys
    (from_list-ascending rows_total exact_rows (set.from_list keys))

pub index_is : (columns : List Slot) (rows : List (List Value)) → IsIndexOf columns rows (index_under columns rows)
index_is columns rows = record {
  indexed = record {
    classes = elements_ascend nat_cmp (set.from_list (class_numbers columns));
    rows = elements_ascend row_cmp (set.from_list (keys_under columns (ascending_classes columns) rows));
    widths = wide_alike columns (ascending_classes columns) rows
        (set.ascending (set.from_list {R = row_cmp} (keys_under columns (ascending_classes columns) rows)))
        (keys_alike (keys_under columns (ascending_classes columns) rows));
  };
  has = λ values below.
      keys_alike (keys_under columns (ascending_classes columns) rows) (begins_so values (ascending_classes columns))
      ∙ keys_have values columns (ascending_classes columns) (classes_alike columns) below rows;
  classes = classes_alike columns;
}

pub nat_ties : (x y : ℕ) → eqb x y ≡ eq_by_cmp nat_cmp x y
nat_ties x y = by (nat_lt x y) refl
  where
    ends : (b : Bool) → b ≡ is_eq (cond b Equal Greater)
    ends true = refl
    ends false = refl

    apart : nat_lt x y ≡ true → (b : Bool) → eqb x y ≡ b → b ≡ false
    apart l true e =
        let less : x < y = ltb-true x y l in
        let same : x ≡ y = eqb-true x y e in
        absurd (omega arith)
    apart l false e = refl

    by : (b : Bool) → nat_lt x y ≡ b → eqb x y ≡ is_eq (cond b Less (cond (x == y) Equal Greater))
    by true e = apart e (eqb x y) refl
    by false e = ends (x == y)
