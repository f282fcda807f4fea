-- Rows by their keys.
use Rattle.std.proofs.Common.{◌≡◌, ℕ, zero, suc, ◌+◌, ◌-◌, ◌<◌, ◌≤◌, take, drop, get_or, ◌++◌, Bool, true, false}
use Rattle.std.proofs.Common.{List, [], ◌∷◌, length, map, refl, sym, ap, subst, ◌∙◌, arith, T, not}
use Rattle.std.specs.Prelude.{◌||◌, ◌&&◌, if◌then◌else◌, All, Err}
use Rattle.std.specs.List.{AllByRecursion, list_any, filter, IsDistinct}
use Rattle.std.specs.List.Sorted.{IsStrictlySortedBy}
use Rattle.std.specs.Ordering.{eq_by_cmp, is_lt, is_eq}
use Rattle.std.specs.declared.cmp.Ordering.{Ordering}
use Rattle.std.specs.declared.cmp.Ordering.TheVariants.{Less, Equal, Greater}
use Rattle.std.specs.FinMap as finite
use Rattle.std.specs.FinMap.Entries.{below_all}
use Rattle.std.proofs.lemmas.List.Elements.{All-from_recursion, recursion_from_All}
use Rattle.std.proofs.lemmas.Map.Keys.{IsDistinct-from_sorted}
use Rattle.ent_lists.specs.Sets as set
use Rattle.ent_lists.specs.Laws.{same_set, contains-from_list, contains-insert, contains-without_all, contains-empty}
use Rattle.ent_lists.specs.Laws.{len-insert, contains-ascending, from_list-ascending, from_list-filter, any_map}
use Rattle.ent_lists.specs.Laws.{any_same_set, len-distinct, ascending-from_list, is_sorted_from, without-append}
use Rattle.ent_lists.specs.Laws.{without-nothing}
use Rattle.std.proofs.lemmas.List.{take_more, take_all, map-append}
use Rattle.ent_lists.specs.Elements.{or_first, or_second}
use Rattle.ent_value.specs.Value.{row_cmp, kind_of, kinds_of}
use Rattle.ent_value.specs.Order.{rows_total, exact_rows}
use Rattle.ent_value.specs.declared.value.Value.{Value}
use Rattle.ent_value.specs.declared.value.Kind.{Kind}
use Rattle.ent_page.specs.Key.{key_of, key_cmp, IsStorable, AreStorable}
use Rattle.ent_page.specs.Read.{row_from}
use Rattle.ent_page.specs.Order.{key_order}
use Rattle.ent_page.specs.Rows.{IsKey, row_again, key_of_row}
use Rattle.ent_rel.specs.Change.{changed_rows}
use Rattle.ent_rel.specs.Relation.{RowSet, HaveKinds, full, bounded}
use Rattle.ent_value.specs.declared.limits.TheConstants.{MOST_ROWS}
use Rattle.ent_page.proofs.Sorted.{equal_keys, same_key, keys_total, keys_exact}
use Rattle.ent_rel.proofs.Lists.{same_rows, have_kinds}
use Rattle.ent_rel.proofs.Meanings.{bounded_beyond}
use Rattle.ent_rel.specs.Kept.{KeySet, listed_rows, rows_of, HoldRows, RemovesRows}

and_parts : (a b : Bool) → T (a && b) → T a × T b
and_parts true b h = (tt, h)
and_parts false b h = absurd h

less_from : (o : Ordering) → T (is_lt o) → o ≡ Less
less_from Less h = refl
less_from Equal h = absurd h
less_from Greater h = absurd h

below_from : {K : Type 0} (R : K → K → Ordering) (k : K) (es : List (K × Unit {0})) → T (below_all R k es)
    → AllByRecursion (λ y. R k y ≡ Less) (map (λ (e : K × Unit {0}). e.0) es)
below_from R k [] h = tt
below_from R k (e ∷ es) h = let p = and_parts (is_lt (R k e.0)) (below_all R k es) h in (
  less_from
      (R k e.0) p.0,
  below_from R k es p.1,
)

sorted_from : {K : Type 0} (R : K → K → Ordering) (es : List (K × Unit {0})) → T (finite.is_sorted R es)
    → IsStrictlySortedBy R (map (λ (e : K × Unit {0}). e.0) es)
unfolding IsStrictlySortedBy
sorted_from R [] h = tt
sorted_from R (e ∷ es) h = let p = and_parts (below_all R e.0 es) (finite.is_sorted R es) h in
    (below_from R e.0 es p.0, sorted_from R es p.1)

-- the elements of a set ascend
pub elements_ascend : {K : Type 0} (R : K → K → Ordering) (s : set.Set R) → IsStrictlySortedBy R (set.ascending s)
elements_ascend R s = sorted_from R (finite.entries s) (finite.entries_sorted s)

pub keys_ascend : (s : KeySet) → IsStrictlySortedBy key_cmp (set.ascending s)
keys_ascend s = elements_ascend key_cmp s

pub rows_ascend : (s : RowSet) → IsStrictlySortedBy row_cmp (set.ascending s)
rows_ascend s = elements_ascend row_cmp s

all_where : (P : List ℕ → Type 0) (ks : List (List ℕ)) → ((k : List ℕ) → list_any (eq_by_cmp key_cmp k) ks ≡ true
    → P k) → AllByRecursion P ks
all_where P [] h = tt
all_where P (k ∷ ks) h = (
  h k (or_first (eq_by_cmp key_cmp k k) (list_any (eq_by_cmp key_cmp k) ks)
      (same_key k)),
  all_where P ks (λ q e. h q (or_second (eq_by_cmp key_cmp q k) (list_any (eq_by_cmp key_cmp q) ks) e)),
)

pub all_keys : (kinds : List Kind) (s : KeySet) → HoldRows kinds s → AllByRecursion (IsKey kinds) (set.ascending s)
all_keys kinds s hold = all_where (IsKey kinds) (set.ascending s) (λ k e. hold k (contains-ascending s k ∙ e))

-- ---- rows in the order of their keys

same_order : (kinds : List Kind) (k q : List ℕ) → IsKey kinds k → IsKey kinds q
    → key_cmp k q ≡ row_cmp (row_from kinds k) (row_from kinds q)
same_order kinds k q a b = (λ i. key_cmp (sym a.again i) (sym b.again i))
    ∙ key_order (row_from kinds k) (row_from kinds q) (a.same ∙ sym b.same) a.fits b.fits

rows_above : (kinds : List Kind) (k : List ℕ) (ks : List (List ℕ)) → IsKey kinds k → AllByRecursion (IsKey kinds) ks
    → AllByRecursion (λ y. key_cmp k y ≡ Less) ks → AllByRecursion (λ row. row_cmp (row_from kinds k) row ≡ Less)
    (map (row_from kinds) ks)
rows_above kinds k [] a all h = tt
rows_above kinds k (q ∷ ks) a all h = (sym (same_order kinds k q a all.0) ∙ h.0, rows_above kinds k ks a all.1 h.1)

rows_sorted : (kinds : List Kind) (ks : List (List ℕ)) → AllByRecursion (IsKey kinds) ks
    → IsStrictlySortedBy key_cmp ks → IsStrictlySortedBy row_cmp (map (row_from kinds) ks)
unfolding IsStrictlySortedBy
rows_sorted kinds [] all h = tt
rows_sorted kinds (k ∷ ks) all h = (rows_above kinds k ks all.0 all.1 h.0, rows_sorted kinds ks all.1 h.1)

fitting_rows : (kinds : List Kind) (ks : List (List ℕ)) → AllByRecursion (IsKey kinds) ks
    → AllByRecursion (λ row. kinds_of row ≡ kinds) (map (row_from kinds) ks)
fitting_rows kinds [] all = tt
fitting_rows kinds (k ∷ ks) all = (all.0.same, fitting_rows kinds ks all.1)

length_rows : (kinds : List Kind) (ks : List (List ℕ)) → length (map (row_from kinds) ks) ≡ length ks
length_rows kinds [] = refl
length_rows kinds (k ∷ ks) = omega (arith, length_rows kinds ks)

module _ (kinds : List Kind) (s : KeySet) (hold : HoldRows kinds s) where
  pub listed_ascend : IsStrictlySortedBy row_cmp (listed_rows kinds s)
  listed_ascend = rows_sorted kinds (set.ascending s) (all_keys kinds s hold) (keys_ascend s)

  pub listed_distinct : IsDistinct (eq_by_cmp row_cmp) (listed_rows kinds s)
  listed_distinct = IsDistinct-from_sorted row_cmp (listed_rows kinds s) listed_ascend

  pub listed_fit : All (λ row. kinds_of row ≡ kinds) (listed_rows kinds s)
  listed_fit = All-from_recursion (λ row. kinds_of row ≡ kinds) (listed_rows kinds s) (fitting_rows kinds
      (set.ascending s) (all_keys kinds s hold))

  pub ascending_rows : set.ascending (rows_of kinds s) ≡ listed_rows kinds s
  ascending_rows = ascending-from_list rows_total exact_rows (listed_rows kinds s) (is_sorted_from row_cmp
      (listed_rows kinds s) listed_ascend)

  keys_len : set.len s ≡ length (set.ascending s)
  keys_len = ap set.len (sym (from_list-ascending keys_total keys_exact s))
      ∙ len-distinct keys_total keys_exact (set.ascending s) (IsDistinct-from_sorted key_cmp (set.ascending s)
      (keys_ascend s))

  pub len_rows : set.len (rows_of kinds s) ≡ set.len s
  len_rows = len-distinct rows_total exact_rows (listed_rows kinds s) listed_distinct
      ∙ length_rows kinds (set.ascending s) ∙ sym keys_len

  pub len_listed : length (listed_rows kinds s) ≡ set.len s
  len_listed = length_rows kinds (set.ascending s) ∙ sym keys_len

any_keys : (kinds : List Kind) (q : List Value) (ks : List (List ℕ))
    → list_any (eq_by_cmp row_cmp q) (map (row_from kinds) ks) ≡ list_any (λ k. eq_by_cmp row_cmp q
    (row_from kinds k)) ks
any_keys kinds q ks = any_map (eq_by_cmp row_cmp q) (row_from kinds) ks

-- rows of keys depend on the set of keys alone
pub rows_same : (kinds : List Kind) (ks ls : List (List ℕ)) → set.from_list {R = key_cmp} ks ≡ set.from_list ls
    → set.from_list {R = row_cmp} (map (row_from kinds) ks) ≡ set.from_list (map (row_from kinds) ls)
rows_same kinds ks ls e = same_set rows_total exact_rows _ _ (λ q.
    contains-from_list rows_total exact_rows (map (row_from kinds) ks) q ∙ any_keys kinds q ks
    ∙ any_same_set keys_total keys_exact (λ k. eq_by_cmp row_cmp q (row_from kinds k)) ks ls e
    ∙ sym (any_keys kinds q ls) ∙ sym (contains-from_list rows_total exact_rows (map (row_from kinds) ls) q))

-- ---- a key more, a key less

pub rows_insert : (kinds : List Kind) (s : KeySet) (row : List Value) → kinds_of row ≡ kinds → AreStorable row
    → rows_of kinds (set.insert s (key_of row)) ≡ set.insert (rows_of kinds s) row
rows_insert kinds s row same fits =
    rows_same kinds (set.ascending (set.insert s (key_of row))) (key_of row ∷ set.ascending s)
    (from_list-ascending keys_total keys_exact (set.insert s (key_of row))
    ∙ ap (λ t. set.insert t (key_of row)) (sym (from_list-ascending keys_total keys_exact s)))
    ∙ ap (λ r. set.insert (rows_of kinds s) r) (row_again kinds row same fits)

pub hold_insert : (kinds : List Kind) (s : KeySet) (row : List Value) → kinds_of row ≡ kinds → AreStorable row
    → HoldRows kinds s → HoldRows kinds (set.insert s (key_of row))
hold_insert kinds s row same fits hold key h = by (eq_by_cmp key_cmp key (key_of row)) refl
  where
    by : (b : Bool) → eq_by_cmp key_cmp key (key_of row) ≡ b → IsKey kinds key
    by true e = subst (IsKey kinds) (sym (equal_keys key (key_of row) e)) (key_of_row kinds row same fits)
    by false e = hold key (sym (ap (λ b. b || set.contains s key) e)
        ∙ sym (contains-insert keys_total keys_exact s (key_of row) key) ∙ h)

and_left : (a b : Bool) → (a && b) ≡ true → a ≡ true
and_left true b h = refl
and_left false b h = absurd cc

pub hold_without : (kinds : List Kind) (s : KeySet) (keys : List (List ℕ)) → HoldRows kinds s
    → HoldRows kinds (set.without_all s keys)
hold_without kinds s keys hold key h = hold key (and_left (set.contains s key) _ (sym
    (contains-without_all keys_total keys_exact s keys key) ∙ h))

filter_rows : (kinds : List Kind) (row : List Value) → kinds_of row ≡ kinds → AreStorable row → (ks : List (List ℕ))
    → AllByRecursion (IsKey kinds) ks
    → map (row_from kinds) (filter (λ k. not (eq_by_cmp key_cmp k (key_of row) || false)) ks) ≡ filter (λ r. not
    (eq_by_cmp row_cmp r row || false)) (map (row_from kinds) ks)
filter_rows kinds row same fits [] all = refl
filter_rows kinds row same fits (k ∷ ks) all =
    let alike : eq_by_cmp key_cmp k (key_of row) ≡ eq_by_cmp row_cmp (row_from kinds k) row =
    ap is_eq (same_order kinds k (key_of row) all.0 (key_of_row kinds row same fits)
    ∙ ap (row_cmp (row_from kinds k)) (row_again kinds row same fits)) in
    by (eq_by_cmp key_cmp k (key_of row)) (eq_by_cmp row_cmp (row_from kinds k) row) alike (filter (λ k. not
    (eq_by_cmp key_cmp k (key_of row) || false)) ks) (filter (λ r. not (eq_by_cmp row_cmp r row || false)) (map
    (row_from kinds) ks)) (filter_rows kinds row same fits ks all.1)
  where
    by : (a b : Bool) → a ≡ b → (xs : List (List ℕ)) (ys : List (List Value)) → map (row_from kinds) xs ≡ ys
        → map (row_from kinds) (if not (a || false) then k ∷ xs else xs) ≡ (if not
        (b || false) then row_from kinds k ∷ ys else ys)
    by true true e xs ys h = h
    by false false e xs ys h = ap (λ z. row_from kinds k ∷ z) h
    by true false e xs ys h = absurd cc
    by false true e xs ys h = absurd cc

pub rows_without : (kinds : List Kind) (s : KeySet) (row : List Value) → kinds_of row ≡ kinds → AreStorable row
    → HoldRows kinds s → rows_of kinds (set.without_all s (key_of row ∷ [])) ≡ set.without_all (rows_of kinds s)
    (row ∷ [])
rows_without kinds s row same fits hold =
    let p = λ (k : List ℕ). not (eq_by_cmp key_cmp k (key_of row) || false) in
    rows_same kinds (set.ascending (set.without_all s (key_of row ∷ []))) (filter p (set.ascending s))
    (from_list-ascending keys_total keys_exact (set.without_all s (key_of row ∷ []))
    ∙ ap (λ t. set.without_all t (key_of row ∷ [])) (sym (from_list-ascending keys_total keys_exact s))
    ∙ sym (from_list-filter keys_total keys_exact p (set.ascending s)))
    ∙ ap (λ rows. set.from_list {R = row_cmp} rows) (filter_rows kinds row same fits (set.ascending s)
    (all_keys kinds s hold))
    ∙ from_list-filter rows_total exact_rows (λ r. not (eq_by_cmp row_cmp r row || false)) (listed_rows kinds s)

any_row : (kinds : List Kind) (row : List Value) → kinds_of row ≡ kinds → AreStorable row → (ks : List (List ℕ))
    → AllByRecursion (IsKey kinds) ks
    → list_any (eq_by_cmp key_cmp (key_of row)) ks ≡ list_any (eq_by_cmp row_cmp row) (map (row_from kinds) ks)
any_row kinds row same fits [] all = refl
any_row kinds row same fits (k ∷ ks) all =
    (λ i. is_eq ((same_order kinds (key_of row) k (key_of_row kinds row same fits) all.0
    ∙ ap (λ r. row_cmp r (row_from kinds k)) (row_again kinds row same fits)) i) || list_any (eq_by_cmp key_cmp
    (key_of row)) ks)
    ∙ ap (λ b. eq_by_cmp row_cmp row (row_from kinds k) || b) (any_row kinds row same fits ks all.1)

-- a row of these kinds is there where its key is
pub contains_row : (kinds : List Kind) (s : KeySet) (row : List Value) → kinds_of row ≡ kinds → AreStorable row
    → HoldRows kinds s → set.contains s (key_of row) ≡ set.contains (rows_of kinds s) row
contains_row kinds s row same fits hold =
    contains-ascending s (key_of row) ∙ any_row kinds row same fits (set.ascending s) (all_keys kinds s hold)
    ∙ sym (contains-from_list rows_total exact_rows (listed_rows kinds s) row)

-- ---- keys of rows

back_all : (kinds : List Kind) (rows : List (List Value)) → AllByRecursion (λ row. kinds_of row ≡ kinds) rows
    → AllByRecursion AreStorable rows → map (row_from kinds) (map key_of rows) ≡ rows
back_all kinds [] same fits = refl
back_all kinds (row ∷ rows) same fits = λ i. row_again kinds row same.0 fits.0 i ∷ back_all kinds rows same.1 fits.1 i

key_there : (kinds : List Kind) (rows : List (List Value)) (key : List ℕ)
    → AllByRecursion (λ row. kinds_of row ≡ kinds) rows → AllByRecursion AreStorable rows
    → list_any (eq_by_cmp key_cmp key) (map key_of rows) ≡ true → IsKey kinds key
key_there kinds [] key same fits h = absurd cc
key_there kinds (row ∷ rows) key same fits h = by (eq_by_cmp key_cmp key (key_of row)) refl
    (key_there kinds rows key same.1 fits.1)
  where
    by : (b : Bool) → eq_by_cmp key_cmp key (key_of row) ≡ b
        → (list_any (eq_by_cmp key_cmp key) (map key_of rows) ≡ true → IsKey kinds key) → IsKey kinds key
    by true e later = subst (IsKey kinds) (sym (equal_keys key (key_of row) e)) (key_of_row kinds row same.0 fits.0)
    by false e later = later (sym (ap (λ b. b || list_any (eq_by_cmp key_cmp key) (map key_of rows)) e) ∙ h)

module _ (kinds : List Kind) (rows : List (List Value)) (keys : KeySet) (made : keys ≡ set.from_list
    (map key_of rows)) (same : All (λ row. kinds_of row ≡ kinds) rows) (fits : All AreStorable rows) where
  pub rows_load : rows_of kinds keys ≡ set.from_list rows
  rows_load =
      ap (rows_of kinds) made
      ∙ rows_same kinds (set.ascending (set.from_list {R = key_cmp} (map key_of rows))) (map key_of rows)
      (from_list-ascending keys_total keys_exact (set.from_list {R = key_cmp} (map key_of rows)))
      ∙ ap (λ rs. set.from_list {R = row_cmp} rs) (back_all kinds rows (recursion_from_All
      (λ row. kinds_of row ≡ kinds) rows same) (recursion_from_All AreStorable rows fits))

  pub hold_load : HoldRows kinds keys
  hold_load = λ key h. key_there kinds rows key (recursion_from_All (λ row. kinds_of row ≡ kinds) rows same)
      (recursion_from_All AreStorable rows fits) (sym (contains-from_list keys_total keys_exact
      (map key_of rows) key) ∙ ap (λ s. set.contains s key) (sym made) ∙ h)

pub rows_empty : (kinds : List Kind) (keys : KeySet) → keys ≡ set.empty → rows_of kinds keys ≡ set.empty
rows_empty kinds keys e = ap (rows_of kinds) e ∙ rows_same kinds (set.ascending (set.empty {R = key_cmp})) []
    (from_list-ascending keys_total keys_exact (set.empty {R = key_cmp}))

pub hold_empty : (kinds : List Kind) (keys : KeySet) → keys ≡ set.empty → HoldRows kinds keys
hold_empty kinds keys e key h = absurd (let no' : false ≡ true = sym (contains-empty key_cmp key)
    ∙ ap (λ s. set.contains s key) (sym e) ∙ h in cc)

and_true : (b : Bool) → (b && true) ≡ b
and_true true = refl
and_true false = refl

-- a row of other kinds is not there
pub without_other : (kinds : List Kind) (s : RowSet) (row : List Value) → HaveKinds kinds s → (kinds_of row ≡ kinds
    → ⊥) → set.without_all s (row ∷ []) ≡ s
without_other kinds s row have other = same_set rows_total exact_rows _ _
    (λ q. contains-without_all rows_total exact_rows s (row ∷ []) q
    ∙ by q (set.contains s q) refl (eq_by_cmp row_cmp q row) refl)
  where
    by : (q : List Value) (a : Bool) → set.contains s q ≡ a → (e : Bool) → eq_by_cmp row_cmp q row ≡ e
        → (set.contains s q && not (eq_by_cmp row_cmp q row || false)) ≡ set.contains s q
    by q a f false h = ap (λ e. set.contains s q && not (e || false)) h ∙ and_true (set.contains s q)
    by q false f true h = ap (λ b. b && not (eq_by_cmp row_cmp q row || false)) f ∙ sym f
    by q true f true h = absurd (other (ap kinds_of (sym (same_rows q row h)) ∙ have q f))

len_grows : (s : RowSet) (rows : List (List Value)) → set.len s ≤ set.len (set.insert_all s rows)
len_grows s [] = omega arith
len_grows s (row ∷ rows) =
    let more = len_grows (set.insert s row) rows in
    elim (set.contains s row) as (λ b. set.len (set.insert s row) ≡ (if b then set.len s else set.len s + 1)
    → set.len s ≤ set.len (set.insert_all
    (set.insert s row) rows)) [ true ↦ λ e. omega arith | false ↦ λ e. omega arith ]
    (len-insert rows_total exact_rows s row)

pub no_more : (kinds : List Kind) (s : KeySet) (rows : List (List Value)) → HoldRows kinds s → MOST_ROWS < set.len s
    → bounded (set.insert_all (rows_of kinds s) rows) (set.insert_all (rows_of kinds s) rows) ≡ Err full
no_more kinds s rows hold many = bounded_beyond (set.insert_all (rows_of kinds s) rows) (set.insert_all
    (rows_of kinds s) rows) (omega (arith, len_grows (rows_of kinds s) rows, len_rows kinds s hold))

-- ---- many keys

pub rows_insert_all : (kinds : List Kind) (s : KeySet) (rows : List (List Value))
    → AllByRecursion (λ row. kinds_of row ≡ kinds) rows → AllByRecursion AreStorable rows
    → rows_of kinds (set.insert_all s (map key_of rows)) ≡ set.insert_all (rows_of kinds s) rows
rows_insert_all kinds s [] same fits = refl
rows_insert_all kinds s (row ∷ rows) same fits =
    rows_insert_all kinds (set.insert s (key_of row)) rows same.1 fits.1
    ∙ ap (λ t. set.insert_all t rows) (rows_insert kinds s row same.0 fits.0)

pub hold_insert_all : (kinds : List Kind) (s : KeySet) (rows : List (List Value))
    → AllByRecursion (λ row. kinds_of row ≡ kinds) rows → AllByRecursion AreStorable rows → HoldRows kinds s
    → HoldRows kinds (set.insert_all s (map key_of rows))
hold_insert_all kinds s [] same fits hold = hold
hold_insert_all kinds s (row ∷ rows) same fits hold = hold_insert_all kinds (set.insert s
    (key_of row)) rows same.1 fits.1 (hold_insert kinds s row same.0 fits.0 hold)

-- one row more to take out, with its key
pub removes_more : (kinds : List Kind) (keys : List (List ℕ)) (rows : List (List Value)) (row : List Value)
    → kinds_of row ≡ kinds → AreStorable row → RemovesRows kinds keys rows
    → RemovesRows kinds (keys ++ key_of row ∷ []) (rows ++ row ∷ [])
removes_more kinds keys rows row same fits before s hold =
    ap (rows_of kinds) (sym (without-append keys_total keys_exact s keys (key_of row ∷ [])))
    ∙ rows_without kinds (set.without_all s keys) row same fits (hold_without kinds s keys hold)
    ∙ ap (λ t. set.without_all t (row ∷ [])) (before s hold)
    ∙ without-append rows_total exact_rows (rows_of kinds s) rows (row ∷ [])

-- one row more to take out, which is of other kinds
pub removes_other : (kinds : List Kind) (keys : List (List ℕ)) (rows : List (List Value)) (row : List Value)
    → (kinds_of row ≡ kinds → ⊥) → RemovesRows kinds keys rows → RemovesRows kinds keys (rows ++ row ∷ [])
removes_other kinds keys rows row other before s hold =
    let left = set.without_all s keys in
    let have = have_kinds kinds (listed_rows kinds left) (listed_fit kinds left (hold_without kinds s keys hold)) in
    sym (without_other kinds (rows_of kinds left) row have other)
    ∙ ap (λ t. set.without_all t (row ∷ [])) (before s hold)
    ∙ without-append rows_total exact_rows (rows_of kinds s) rows (row ∷ [])

pub removes_none : (kinds : List Kind) → RemovesRows kinds [] []
removes_none kinds s hold =
    ap (rows_of kinds) (without-nothing keys_total keys_exact s)
    ∙ sym (without-nothing rows_total exact_rows (rows_of kinds s))

module _ (kinds : List Kind) (s : KeySet) (removed added : List (List Value)) (gone : List (List ℕ)) (made : KeySet)
    (is : made ≡ set.insert_all (set.without_all s gone) (map key_of added)) (hold : HoldRows kinds s)
    (takes : RemovesRows kinds gone removed) (same : All (λ row. kinds_of row ≡ kinds) added)
    (fits : All AreStorable added) where
  pub rows_merged : rows_of kinds made ≡ changed_rows (rows_of kinds s) removed added
  rows_merged =
      ap (rows_of kinds) is
      ∙ rows_insert_all kinds (set.without_all s gone) added (recursion_from_All
      (λ row. kinds_of row ≡ kinds) added same) (recursion_from_All AreStorable added fits)
      ∙ ap (λ t. set.insert_all t added) (takes s hold)

  pub hold_merged : HoldRows kinds made
  hold_merged =
      subst (λ t. HoldRows kinds t) (sym is)
      (hold_insert_all kinds (set.without_all s gone) added (recursion_from_All
      (λ row. kinds_of row ≡ kinds) added same) (recursion_from_All AreStorable added fits)
      (hold_without kinds s gone hold))

-- a list by its first element and the others
pub first_and_others : {X : Type 0} (xs : List X) (x : X) → 1 ≤ length xs → x ≡ get_or xs 0 x
    → x ∷ take (length xs - 1) (drop 1 xs) ≡ xs
first_and_others [] x h is = absurd (omega arith)
first_and_others (y ∷ ys) x h is = λ i. is i ∷ take_all (length (y ∷ ys) - 1) ys (omega arith) i

pub none_in : {X : Type 0} (xs : List X) → length xs ≡ 0 → xs ≡ []
none_in [] h = refl
none_in (x ∷ xs) h = absurd (omega arith)

-- ---- kinds and keys of more and more values

pub kinds_more : (values : List Value) (kinds : List Kind) (i : ℕ) (v : Value) (d : Kind) → i < length values
    → length values ≡ length kinds → v ≡ get_or values i v → kind_of v ≡ get_or kinds i d
    → kinds_of (take i values) ≡ take i kinds → kinds_of (take (i + 1) values) ≡ take (i + 1) kinds
kinds_more values kinds i v d lt same is k h =
    ap kinds_of (take_more values i v lt ∙ ap (λ y. take i values ++ y ∷ []) (sym is))
    ∙ map-append kind_of (take i values) (v ∷ [])
    ∙ (λ j. h j ++ k j ∷ []) ∙ sym (take_more kinds i d (omega arith))

pub stored_more : (values : List Value) (i : ℕ) (v : Value) → i < length values → v ≡ get_or values i v
    → IsStorable v → AreStorable (take i values) → AreStorable (take (i + 1) values)
stored_more [] i v lt is one all = absurd (omega arith)
stored_more (x ∷ xs) zero v lt is one all = (subst IsStorable is one, tt)
stored_more (x ∷ xs) (suc i) v lt is one all =
    subst (λ (n : ℕ). AreStorable (take n (x ∷ xs))) (let e : suc (i + 1) ≡ suc i + 1 = omega arith in e)
    (all.0, stored_more xs i v (omega arith) is one all.1)

-- a row of other kinds is not in a set of rows
pub other_absent : (kinds : List Kind) (s : RowSet) (row : List Value) → HaveKinds kinds s → (kinds_of row ≡ kinds
    → ⊥) → set.contains s row ≡ false
other_absent kinds s row have other = by (set.contains s row) refl
  where
    by : (b : Bool) → set.contains s row ≡ b → set.contains s row ≡ false
    by true e = absurd (other (have row e))
    by false e = e
