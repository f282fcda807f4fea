-- Where a statement asks for a row and nothing else, each value that comes next leads to a row.
use Rattle.std.proofs.Common.{◌≡◌, ℕ, zero, suc, ◌+◌, ◌<◌, ◌≤◌, Bool, true, false, cond, List, [], ◌∷◌, ◌++◌}
use Rattle.std.proofs.Common.{Option, Some, None, length, length-append, map, refl, sym, ap, subst, ◌∙◌, append_assoc}
use Rattle.std.proofs.Common.{arith, inl, inr}
use Rattle.std.specs.Prelude.{◌==◌, ◌||◌, ◌&&◌, slice_index_or, unwrap_or}
use Rattle.std.specs.List.{AllByRecursion, filter, list_all, list_any}
use Rattle.std.specs.List.Sorted.{IsStrictlySortedBy}
use Rattle.std.specs.Option.{option_map}
use Rattle.std.specs.Ordering.{is_eq, nat_cmp, ordering_then}
use Rattle.std.specs.declared.cmp.Ordering.TheVariants.{Less, Equal}
use Rattle.std.proofs.lemmas.Bool.{eqb-true}
use Rattle.std.proofs.lemmas.List.{length_push}
use Rattle.ent_lists.specs.Elements.{or_second}
use Rattle.ent_lists.specs.Sets as set
use Rattle.ent_lists.proofs.Orders.{equal_then, is_equal}
use Rattle.ent_value.specs.Value.{kind_of, kinds_of, value_cmp}
use Rattle.ent_value.specs.Order.{exact_values}
use Rattle.ent_value.specs.declared.value.Kind.{Kind}
use Rattle.ent_value.specs.declared.value.Kind.TheVariants as kinds
use Rattle.ent_value.specs.declared.value.Value.{Value}
use Rattle.ent_semantics.specs.Database.{Rows}
use Rattle.ent_semantics.specs.Kinds.{RowsHaveKinds}
use Rattle.ent_semantics.specs.Term.{no_value}
use Rattle.ent_semantics.proofs.EachRow.{to_ascending}
use Rattle.ent_semantics.specs.declared.entangled.Term.{Term}
use Rattle.ent_semantics.specs.declared.entangled.Term.TheVariants as terms
use Rattle.ent_plan.specs.Plan.{slot_kind}
use Rattle.ent_plan.specs.declared.slot.Slot.{Slot}
use Rattle.ent_plan.specs.declared.slot.Slot.TheVariants.{Fixed, Class}
use Rattle.ent_join.specs.Cursor.{IsAmong, column_values}
use Rattle.ent_join.specs.Frame.{are_of_kinds, candidates_of, lets_through, may_hold}
use Rattle.ent_join.specs.Index.{Indexed, IsIndexed, begins_so, begun_cmp, candidates_in, candidates_or, column_of}
use Rattle.ent_join.specs.Index.{goes_on, known_cmp}
use Rattle.ent_join.specs.Keyed.{agree, class_numbers, is_class, key_under, keys_under, term_slot, value_under}
use Rattle.ent_join.specs.Row.{term_kind}
use Rattle.ent_join.specs.Search.{NoDeadEnds}
use Rattle.ent_join.specs.declared.frame.Frame.{Frame}
use Rattle.ent_join.proofs.Begun.{get_next, less_is, some_suc}
use Rattle.ent_join.proofs.Chosen.{kinds_to}
use Rattle.ent_join.proofs.Steps.{value_cmp-self}

-- ---- the numbers from one on

abbrev pub upto : ℕ → ℕ → List ℕ
upto next zero = []
upto next (suc k) = next ∷ upto (suc next) k

pub upto_width : (next k : ℕ) → length (upto next k) ≡ k
upto_width next zero = refl
upto_width next (suc k) = ap suc (upto_width (suc next) k)

abbrev pub Within : ℕ → ℕ → ℕ → Type 0
Within next k n = (next ≤ n) × (n < next + k)

above : (next k n : ℕ) (ns : List ℕ) → n ≡ next → AllByRecursion (λ m. nat_cmp n m ≡ Less) ns
    → AllByRecursion (Within next (suc k)) ns → AllByRecursion (Within (suc next) k) ns
above next k n [] is less all = tt
above next k n (m ∷ ns) is less all =
    let l : n < m = less_is n m less.0 in
    let h : m < next + suc k = all.0.1 in
    ((omega arith, omega arith), above next k n ns is less.1 all.1)

not_there : (next n : ℕ) (ns : List ℕ) → next ≤ n → AllByRecursion (λ m. nat_cmp n m ≡ Less) ns
    → list_any (λ m. m == next) ns ≡ true → ⊥
not_there next n [] le less h = cc
not_there next n (m ∷ ns) le less h = by (m == next) refl (λ k. not_there next n ns le less.1 k) h
  where
    by : (b : Bool) → (m == next) ≡ b → (list_any (λ m. m == next) ns ≡ true → ⊥)
        → (b || list_any (λ m. m == next) ns) ≡ true → ⊥
    by true is more e =
        let same : m ≡ next = eqb-true m next is in
        let l : n < m = less_is n m less.0 in
        omega arith
    by false is more e = more e

-- a strictly ascending list that holds just the numbers from one on
pub is_upto : (k next : ℕ) (ns : List ℕ) → IsStrictlySortedBy nat_cmp ns → AllByRecursion (Within next k) ns
    → ((n : ℕ) → next ≤ n → n < next + k → list_any (λ m. m == n) ns ≡ true) → ns ≡ upto next k
unfolding IsStrictlySortedBy
is_upto zero next [] sorted all has = refl
is_upto zero next (n ∷ ns) sorted all has =
    let l : next ≤ n = all.0.0 in
    let h : n < next + 0 = all.0.1 in
    absurd (omega arith)
is_upto (suc k) next [] sorted all has =
    let h : list_any (λ m. m == next) [] ≡ true = has next (omega arith) (omega arith) in cc
is_upto (suc k) next (n ∷ ns) sorted all has =
    λ i. first i ∷ is_upto k (suc next) ns sorted.1 (above next k n ns first sorted.0 all.1) more i
  where
    by : (b : Bool) → (n == next) ≡ b → (b || list_any (λ m. m == next) ns) ≡ true → n ≡ next
    by true is e = eqb-true n next is
    by false is e = absurd (not_there next n ns all.0.0 sorted.0 e)

    first : n ≡ next
    first = by (n == next) refl (has next (omega arith) (omega arith))

    others : (m : ℕ) (b : Bool) → (n == m) ≡ b → suc next ≤ m → (b || list_any (λ j. j == m) ns) ≡ true
        → list_any (λ j. j == m) ns ≡ true
    others m true is le e =
        let same : n ≡ m = eqb-true n m is in
        let f : n ≡ next = first in
        absurd (omega arith)
    others m false is le e = e

    more : (m : ℕ) → suc next ≤ m → m < suc next + k → list_any (λ j. j == m) ns ≡ true
    more m le less = others m (n == m) refl le (has m (omega arith) (omega arith))

-- the column of a number
column_at : (k next number column : ℕ) → column_of number (upto next k) ≡ Some column
    → (number ≡ next + column) × (column < k)
column_at zero next number column h = cc
column_at (suc k) next number column h =
    by (next == number) refl (λ j e. column_at k (suc next) number j e) h
  where
    by : (b : Bool) → (next == number) ≡ b
        → ((j : ℕ) → column_of number (upto (suc next) k) ≡ Some j → (number ≡ suc next + j) × (j < k))
        → cond b (Some 0) (option_map suc (column_of number (upto (suc next) k))) ≡ Some column
        → (number ≡ next + column) × (column < suc k)
    by true is more e =
        let first : 0 ≡ column = cc in
        let same : next ≡ number = eqb-true next number is in
        (omega arith, omega arith)
    by false is more e =
        let later = some_suc (column_of number (upto (suc next) k)) column e in
        let at = more later.0 later.1 in
        let f : column ≡ suc later.0 = later.2 in
        let g : number ≡ suc next + later.0 = at.0 in
        let l : later.0 < k = at.1 in
        (omega arith, omega arith)

-- ---- rows with a value for each number

pushed : (front : List Value) (value : Value) → length (front ++ value ∷ []) ≡ suc (length front)
pushed front value = let l = length_push front value in omega arith

-- a row that begins as a list does goes on with its value behind it
goes_as : (front beginning row : List Value) (k : ℕ)
    → begun_cmp (front ++ beginning) (upto (length front) k) row ≡ Equal → length row ≡ k → length beginning < k
    → (rest : List Value) × (row ≡ beginning ++ slice_index_or row (length beginning) no_value ∷ rest)
goes_as front [] [] k begun wide less = absurd (omega arith)
goes_as front [] (value ∷ row) k begun wide less = (row, refl)
goes_as front (first ∷ beginning) row zero begun wide less = absurd (omega arith)
goes_as front (first ∷ beginning) [] (suc k) begun wide less = absurd (omega arith)
goes_as front (first ∷ beginning) (value ∷ row) (suc k) begun wide less =
    let here = equal_then (value_cmp value first)
    (begun_cmp (front ++ first ∷ beginning) (upto (suc (length front)) k) row)
    (subst (λ known. known_cmp known value
    (begun_cmp (front ++ first ∷ beginning) (upto (suc (length front)) k) row) ≡ Equal)
    (get_next front beginning first) begun) in
    let same : value ≡ first = exact_values value first here.0 in
    let more = goes_as (front ++ first ∷ []) beginning row k
    ((λ i. begun_cmp (append_assoc front (first ∷ []) beginning i) (upto (pushed front first i) k) row) ∙ here.1)
    (omega arith) (omega arith) in
    (more.0, (λ i. same i ∷ more.1 i))

-- a row begins as itself
begins_as_itself : (front row : List Value)
    → begun_cmp (front ++ row) (upto (length front) (length row)) row ≡ Equal
begins_as_itself front [] = refl
begins_as_itself front (value ∷ row) =
    ap (λ known. known_cmp known value (begun_cmp (front ++ value ∷ row) (upto (suc (length front)) (length row)) row))
    (get_next front row value)
    ∙ ap (λ o. ordering_then o (begun_cmp (front ++ value ∷ row) (upto (suc (length front)) (length row)) row))
    (value_cmp-self value)
    ∙ sym (λ i. begun_cmp (append_assoc front (value ∷ []) row i) (upto (pushed front value i) (length row)) row)
    ∙ begins_as_itself (front ++ value ∷ []) row

-- one of some rows has this value in a column
abbrev HasValue : Value → ℕ → (List Value → Bool) → (List Value → Type 0) → List (List Value) → Type 0
HasValue value column p P rows =
    (row : List Value) × (p row ≡ true) × (slice_index_or row column no_value ≡ value) × P row
    × ((q : List Value → Bool) → q row ≡ true → list_any q rows ≡ true)

one_later : (value : Value) (column : ℕ) (p : List Value → Bool) (P : List Value → Type 0) (row : List Value)
    (rows : List (List Value)) → HasValue value column p P rows → HasValue value column p P (row ∷ rows)
one_later value column p P row rows f = (f.0, f.1, f.2, f.3, λ q e. or_second (q row) (list_any q rows) (f.4 q e))

-- a value of a column is that of a row
in_column : (value : Value) (column : ℕ) (p : List Value → Bool) (P : List Value → Type 0) (rows : List (List Value))
    → AllByRecursion P rows → IsAmong value (column_values column (filter p rows)) → HasValue value column p P rows
in_column value column p P [] all h = absurd h
in_column value column p P (row ∷ rows) all h =
    by (p row) refl (λ k. in_column value column p P rows all.1 k) h
  where
    by : (b : Bool) → p row ≡ b
        → (IsAmong value (column_values column (filter p rows)) → HasValue value column p P rows)
        → IsAmong value (column_values column (cond b (row ∷ filter p rows) (filter p rows)))
        → HasValue value column p P (row ∷ rows)
    by true is more (inl e) = (row, is, e, all.0, λ q k. ap (λ b. b || list_any q rows) k)
    by true is more (inr k) = one_later value column p P row rows (more k)
    by false is more k = one_later value column p P row rows (more k)

-- ---- kinds

class_kind : (ks : List Kind) (number : ℕ) (slot : Slot) → is_class number slot ≡ true
    → slot_kind ks slot ≡ slice_index_or ks number kinds.Int
class_kind ks number (Fixed value) h = cc
class_kind ks number (Class other) h = ap (λ n. slice_index_or ks n kinds.Int) (eqb-true other number h)

-- the value of a row under a class is of the kind of the class
value_kind : (ks : List Kind) (number : ℕ) (columns : List Slot) (row : List Value)
    → kinds_of row ≡ map (slot_kind ks) columns → list_any (is_class number) columns ≡ true
    → kind_of (unwrap_or (value_under number columns row) no_value) ≡ slice_index_or ks number kinds.Int
value_kind ks number [] row e h = cc
value_kind ks number (slot ∷ columns) [] e h = cc
value_kind ks number (slot ∷ columns) (value ∷ row) e h =
    by (is_class number slot) refl (λ k. value_kind ks number columns row rest k) h
  where
    first : kind_of value ≡ slot_kind ks slot
    first = cc

    rest : kinds_of row ≡ map (slot_kind ks) columns
    rest = cc

    by : (b : Bool) → is_class number slot ≡ b
        → (list_any (is_class number) columns ≡ true
        → kind_of (unwrap_or (value_under number columns row) no_value) ≡ slice_index_or ks number kinds.Int)
        → (b || list_any (is_class number) columns) ≡ true
        → kind_of (unwrap_or (cond b (Some value) (value_under number columns row)) no_value)
        ≡ slice_index_or ks number kinds.Int
    by true is more k = first ∙ class_kind ks number slot is
    by false is more k = more k

key_kinds : (ks : List Kind) (columns : List Slot) (row : List Value) (classes : List ℕ)
    → kinds_of row ≡ map (slot_kind ks) columns
    → AllByRecursion (λ number. list_any (is_class number) columns ≡ true) classes
    → kinds_of (key_under columns row classes) ≡ map (λ number. slice_index_or ks number kinds.Int) classes
key_kinds ks columns row [] e all = refl
key_kinds ks columns row (number ∷ classes) e all =
    λ i. value_kind ks number columns row e all.0 i ∷ key_kinds ks columns row classes e all.1 i

seam : (front ks : List Kind) (kind : Kind) → slice_index_or (front ++ kind ∷ ks) (length front) kinds.Int ≡ kind
seam [] ks kind = refl
seam (k ∷ front) ks kind = seam front ks kind

kinds_pushed : (front : List Kind) (kind : Kind) → length (front ++ kind ∷ []) ≡ suc (length front)
kinds_pushed front kind = let l = length_push front kind in omega arith

all_kinds : (front ks : List Kind)
    → map (λ number. slice_index_or (front ++ ks) number kinds.Int) (upto (length front) (length ks)) ≡ ks
all_kinds front [] = refl
all_kinds front (kind ∷ ks) =
    λ i. seam front ks kind i
    ∷ (sym (λ j. map (λ number. slice_index_or (append_assoc front (kind ∷ []) ks j) number kinds.Int)
    (upto (kinds_pushed front kind j) (length ks)))
    ∙ all_kinds (front ++ kind ∷ []) ks) i

module _ (ks : List Kind) (columns : List Slot) (classes : List ℕ) (are : classes ≡ upto 0 (length ks))
    (there : AllByRecursion (λ number. list_any (is_class number) columns ≡ true) classes) where
  key_fits : (row : List Value) → kinds_of row ≡ map (slot_kind ks) columns
      → are_of_kinds ks (key_under columns row classes) ≡ true
  key_fits row e =
      let same : kinds_of (key_under columns row classes) ≡ ks =
      key_kinds ks columns row classes e there
      ∙ ap (map (λ number. slice_index_or ks number kinds.Int)) are ∙ all_kinds [] ks in
      ap (λ kinds. are_of_kinds kinds (key_under columns row classes)) (sym same)
      ∙ kinds_to (key_under columns row classes)

  pub keys_fit : (rows : List (List Value)) → AllByRecursion (λ row. kinds_of row ≡ map (slot_kind ks) columns) rows
      → AllByRecursion (λ key. are_of_kinds ks key ≡ true) (keys_under columns classes rows)
  keys_fit [] all = tt
  keys_fit (row ∷ rows) all = by (agree columns row columns row) (keys_fit rows all.1)
    where
      by : (b : Bool) → AllByRecursion (λ key. are_of_kinds ks key ≡ true) (keys_under columns classes rows)
          → AllByRecursion (λ key. are_of_kinds ks key ≡ true)
          (cond b (key_under columns row classes ∷ keys_under columns classes rows) (keys_under columns classes rows))
      by true more = (key_fits row all.0, more)
      by false more = more

-- ---- the kinds of rows

pub rows_of_kinds : (ks : List Kind) (rows : Rows) → RowsHaveKinds ks rows
    → AllByRecursion (λ row. kinds_of row ≡ ks) (set.ascending rows)
rows_of_kinds ks = to_ascending (λ row. kinds_of row ≡ ks)

slot_kind_at : (ks : List Kind) (slots : List Slot) (number : ℕ)
    → slot_kind ks (slice_index_or slots number (Fixed no_value))
    ≡ slice_index_or (map (slot_kind ks) slots) number kinds.Int
slot_kind_at ks [] number = refl
slot_kind_at ks (slot ∷ slots) zero = refl
slot_kind_at ks (slot ∷ slots) (suc number) = slot_kind_at ks slots number

-- the kinds of the columns of a tuple
pub column_kinds : (ks variables : List Kind) (slots : List Slot) → map (slot_kind ks) slots ≡ variables
    → (ts : List (Term Value)) → map (term_kind variables) ts ≡ map (slot_kind ks) (map (term_slot slots) ts)
column_kinds ks variables slots e [] = refl
column_kinds ks variables slots e (terms.Known value ∷ ts) =
    ap (λ others. kind_of value ∷ others) (column_kinds ks variables slots e ts)
column_kinds ks variables slots e (terms.Variable number ∷ ts) =
    λ i. (ap (λ all. slice_index_or all number kinds.Int) (sym e) ∙ sym (slot_kind_at ks slots number)) i
    ∷ column_kinds ks variables slots e ts i

pub class_any : (number : ℕ) (columns : List Slot)
    → list_any (is_class number) columns ≡ list_any (λ n. n == number) (class_numbers columns)
class_any number [] = refl
class_any number (Fixed value ∷ columns) = class_any number columns
class_any number (Class other ∷ columns) = ap (λ b. (other == number) || b) (class_any number columns)

-- ---- one index

module _ (ks : List Kind) (index : Indexed) (frame : Frame) (indexes : frame.indexes ≡ index ∷ [])
    (tests : frame.tests ≡ []) (of_kinds : frame.kinds ≡ ks) (is : IsIndexed index)
    (are : index.classes ≡ upto 0 (length ks))
    (fit : AllByRecursion (λ key. are_of_kinds ks key ≡ true) index.rows) where
  abbrev Fits : List Value → Type 0
  Fits row = (length row ≡ length ks) × (are_of_kinds ks row ≡ true)

  all_fit : (rows : List (List Value)) → AllByRecursion (λ row. length row ≡ length index.classes) rows
      → AllByRecursion (λ key. are_of_kinds ks key ≡ true) rows → AllByRecursion Fits rows
  all_fit [] widths kinded = tt
  all_fit (row ∷ rows) widths kinded = (
    (widths.0 ∙ ap length are ∙ upto_width 0 (length ks), kinded.0),
    all_fit rows widths.1 kinded.1,
  )

  -- each row of the index is let through
  row_passes : (row : List Value) → Fits row
      → ((q : List Value → Bool) → q row ≡ true → list_any q index.rows ≡ true) → lets_through frame row ≡ true
  row_passes row fits has =
      let itself : begins_so row index.classes row ≡ true =
      ap is_eq (ap (λ classes. begun_cmp row classes row) (are ∙ ap (upto 0) (sym fits.0)) ∙ begins_as_itself [] row) in
      (λ i. are_of_kinds (of_kinds i) row && (list_all (goes_on row) (indexes i) && list_all (may_hold row) (tests i)))
      ∙ (λ i. fits.1 i && ((has (begins_so row index.classes) itself i && true) && true))

  leads_on : (beginning : List Value) (value : Value) (column : ℕ)
      → column_of (length beginning) index.classes ≡ Some column
      → IsAmong value (column_values column (filter (begins_so beginning index.classes) index.rows))
      → (rest : List Value) × (length beginning + (1 + length rest) ≡ length ks)
      × (lets_through frame (beginning ++ value ∷ rest) ≡ true)
  leads_on beginning value column here among =
      let at = column_at (length ks) 0 (length beginning) column (ap (column_of (length beginning)) (sym are) ∙ here) in
      let place : length beginning ≡ 0 + column = at.0 in
      let within : column < length ks = at.1 in
      let found = in_column value column (begins_so beginning index.classes) Fits index.rows
      (all_fit index.rows is.widths fit) among in
      let row = found.0 in
      let begun : begun_cmp beginning (upto 0 (length ks)) row ≡ Equal =
      ap (λ classes. begun_cmp beginning classes row) (sym are) ∙ is_equal _ found.1 in
      let way = goes_as [] beginning row (length ks) begun found.3.0 (omega arith) in
      let same : slice_index_or row (length beginning) no_value ≡ value =
      ap (λ n. slice_index_or row n no_value) (let k : length beginning ≡ column = omega arith in k) ∙ found.2 in
      let whole : row ≡ beginning ++ value ∷ way.0 = way.1 ∙ ap (λ v. beginning ++ v ∷ way.0) same in
      let wide : length row ≡ length ks = found.3.0 in
      let parts : length row ≡ length beginning + length (value ∷ way.0) =
      ap length whole ∙ length-append beginning (value ∷ way.0) in
      (way.0, omega arith, ap (lets_through frame) (sym whole) ∙ row_passes row found.3 found.4)

  pub no_dead_ends : NoDeadEnds (length ks) (candidates_of frame) (lets_through frame)
  no_dead_ends beginning value among =
      by (column_of (length beginning) index.classes) refl
      (subst (λ all. IsAmong value (candidates_in all beginning)) indexes among)
    where
      by : (column : Option ℕ) → column_of (length beginning) index.classes ≡ column
          → IsAmong value (candidates_or beginning index [] column)
          → (rest : List Value) × (length beginning + (1 + length rest) ≡ length ks)
          × (lets_through frame (beginning ++ value ∷ rest) ≡ true)
      by (Some column) here h = leads_on beginning value column here h
      by None here h = absurd h
