-- Where each column is a class of its own, a row is its key.
use Rattle.std.proofs.Common.{◌≡◌, ℕ, Bool, true, false, cond, List, [], ◌∷◌, length, map, Some}
use Rattle.std.proofs.Common.{refl, sym, ap, subst, ◌∙◌, arith, rules, suc}
use Rattle.std.specs.Prelude.{◌==◌, ◌&&◌, unwrap_or}
use Rattle.std.specs.List.{AllByRecursion, filter}
use Rattle.std.specs.List.Sorted.{IsStrictlySortedBy}
use Rattle.std.specs.Ordering.{is_eq, nat_cmp}
use Rattle.std.specs.declared.cmp.Ordering.TheVariants.{Less}
use Rattle.std.proofs.lemmas.List.{length-map}
use Rattle.std.proofs.lemmas.List.Kept.{IsStrictlySortedBy-filter}
use Rattle.ent_lists.specs.Elements.{and_both, differ, not_so, number_itself, same_number}
use Rattle.ent_lists.specs.Laws.{ascending-from_list, is_sorted_from}
use Rattle.ent_lists.specs.Sets as set
use Rattle.ent_value.specs.Order.{rows_total, exact_rows}
use Rattle.ent_value.specs.Value.{row_cmp}
use Rattle.ent_value.specs.declared.value.Value.{Value}
use Rattle.ent_semantics.specs.Term.{no_value}
use Rattle.ent_plan.specs.declared.slot.Slot.{Slot}
use Rattle.ent_plan.specs.declared.slot.Slot.TheVariants.{Class}
use Rattle.ent_join.specs.Keyed.{agree, is_found, key_under, keys_under, value_under}
use Rattle.ent_join.proofs.Steps.{value_cmp-self}

-- each of some classes has its value in a row of columns
abbrev Reads : List Slot → List Value → List ℕ → List Value → Type 0
Reads columns row [] [] = Unit {0}
Reads columns row [] (value ∷ values) = ⊥
Reads columns row (class ∷ classes) [] = ⊥
Reads columns row (class ∷ classes) (value ∷ values) =
    (value_under class columns row ≡ Some value) × Reads columns row classes values

-- another class before them changes nothing
reads_behind : (first : ℕ) (value : Value) (columns : List Slot) (row : List Value) (classes : List ℕ)
    (values : List Value) → AllByRecursion (λ class. nat_cmp first class ≡ Less) classes
    → Reads columns row classes values → Reads (Class first ∷ columns) (value ∷ row) classes values
reads_behind first value columns row [] [] above reads = tt
reads_behind first value columns row [] (v ∷ values) above reads = reads
reads_behind first value columns row (class ∷ classes) [] above reads = reads
reads_behind first value columns row (class ∷ classes) (v ∷ values) above reads = (
  ap (λ b. cond b (Some value) (value_under class columns row)) (differs first class above.0) ∙ reads.0,
  reads_behind first value columns row classes values above.1 reads.1,
)
  where
    differs : (m n : ℕ) → nat_cmp m n ≡ Less → (m == n) ≡ false
    differs m n below = grind (arith, rules)

reads_all : (classes : List ℕ) (row : List Value) → IsStrictlySortedBy nat_cmp classes → length row ≡ length classes
    → Reads (map Class classes) row classes row
unfolding IsStrictlySortedBy
reads_all [] [] sorted wide = tt
reads_all [] (value ∷ row) sorted wide = absurd (omega arith)
reads_all (class ∷ classes) [] sorted wide = absurd (omega arith)
reads_all (class ∷ classes) (value ∷ row) sorted wide = (
  ap (λ b. cond b (Some value) (value_under class (map Class classes) row)) (number_itself class),
  reads_behind class value (map Class classes) row classes row sorted.0 (reads_all classes row sorted.1 (omega arith)),
)

key_read : (columns : List Slot) (row : List Value) (classes : List ℕ) (values : List Value)
    → Reads columns row classes values → key_under columns row classes ≡ values
key_read columns row [] [] reads = refl
key_read columns row [] (value ∷ values) reads = absurd reads
key_read columns row (class ∷ classes) [] reads = absurd reads
key_read columns row (class ∷ classes) (value ∷ values) reads =
    ap (λ o. unwrap_or o no_value ∷ key_under columns row classes) reads.0
    ∙ ap (λ vs. value ∷ vs) (key_read columns row classes values reads.1)

agree_read : (columns : List Slot) (row : List Value) (classes : List ℕ) (values : List Value)
    → Reads columns row classes values → agree columns row (map Class classes) values ≡ true
agree_read columns row [] [] reads = refl
agree_read columns row [] (value ∷ values) reads = absurd reads
agree_read columns row (class ∷ classes) [] reads = absurd reads
agree_read columns row (class ∷ classes) (value ∷ values) reads =
    ap (λ o. is_found o value && agree columns row (map Class classes) values) reads.0
    ∙ ap (λ o. is_eq o && agree columns row (map Class classes) values) (value_cmp-self value)
    ∙ agree_read columns row classes values reads.1

-- what agrees has a value for each column
agree_wide : (columns : List Slot) (row : List Value) (slots : List Slot) (values : List Value)
    → agree columns row slots values ≡ true → length values ≡ length slots
agree_wide columns row [] [] h = refl
agree_wide columns row [] (value ∷ values) h = cc
agree_wide columns row (slot ∷ slots) [] h = cc
agree_wide columns row (slot ∷ slots) (value ∷ values) h =
    ap suc (agree_wide columns row slots values (and_both _ (agree columns row slots values) h).1)

module _ (classes : List ℕ) (sorted : IsStrictlySortedBy nat_cmp classes) where
  abbrev columns : List Slot
  columns = map Class classes

  length_columns : length columns ≡ length classes
  length_columns = length-map classes Class

  row_reads : (row : List Value) → (length row == length columns) ≡ true → Reads columns row classes row
  row_reads row wide =
      reads_all classes row sorted (same_number (length row) (length columns) wide ∙ length_columns)

  narrow : (row : List Value) → (length row == length columns) ≡ false → agree columns row columns row ≡ false
  narrow row other = not_so _ (λ h. differ (length row) (length columns) other (agree_wide columns row columns row h))

  -- the keys of rows are those of them that have a value for each column
  keys_are : (left : List Value → Bool) (rows : List (List Value))
      → keys_under columns classes (filter left rows)
      ≡ filter (λ row. (length row == length columns) && left row) rows
  keys_are left [] = refl
  keys_are left (row ∷ rows) = by (left row) (length row == length columns) refl (keys_are left rows)
    where
      by : (l w : Bool) → (length row == length columns) ≡ w
          → keys_under columns classes (filter left rows)
          ≡ filter (λ row. (length row == length columns) && left row) rows
          → keys_under columns classes (cond l (row ∷ filter left rows) (filter left rows))
          ≡ cond (w && l) (row ∷ filter (λ row. (length row == length columns) && left row) rows)
          (filter (λ row. (length row == length columns) && left row) rows)
      by true true wide more =
          let reads = row_reads row wide in
          (λ i. cond (agree_read columns row classes row reads i)
          (key_read columns row classes row reads i ∷ keys_under columns classes (filter left rows))
          (keys_under columns classes (filter left rows)))
          ∙ ap (λ keys. row ∷ keys) more
      by true false wide more =
          ap (λ b. cond b (key_under columns row classes ∷ keys_under columns classes (filter left rows))
          (keys_under columns classes (filter left rows))) (narrow row wide)
          ∙ more
      by false true wide more = more
      by false false wide more = more

-- rows that are left of rows that ascend are the keys, ascending
pub plain_keys : (slots : List Slot) (classes : List ℕ) → slots ≡ map Class classes
    → IsStrictlySortedBy nat_cmp classes → (left : List Value → Bool) (rows : List (List Value))
    → IsStrictlySortedBy row_cmp rows
    → filter (λ row. (length row == length slots) && left row) rows
    ≡ set.ascending (set.from_list {R = row_cmp} (keys_under slots classes (filter left rows)))
plain_keys slots classes same sorted left rows ascend =
    let P : List Slot → Type 0 = λ those.
    filter (λ row. (length row == length those) && left row) rows
    ≡ set.ascending (set.from_list {R = row_cmp} (keys_under those classes (filter left rows))) in
    let kept = filter (λ row. (length row == length (map Class classes)) && left row) rows in
    subst P (sym same)
    (sym (ascending-from_list rows_total exact_rows kept
    (is_sorted_from row_cmp kept (IsStrictlySortedBy-filter row_cmp _ rows ascend)))
    ∙ ap (λ keys. set.ascending (set.from_list {R = row_cmp} keys)) (sym (keys_are classes sorted left rows)))
