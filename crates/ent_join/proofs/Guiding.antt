-- Indexes and tests guide a search.
use Rattle.std.proofs.Common.{◌≡◌, ◌≢◌, ℕ, Bool, true, false, cond, List, [], ◌∷◌, ◌++◌, length}
use Rattle.std.proofs.Common.{Option, Some, None, refl, ap, subst, ◌∙◌, arith, inl, inr}
use Rattle.std.specs.Prelude.{◌&&◌, ◌||◌, is_some, slice_index_or}
use Rattle.std.specs.List.{AllByRecursion, filter, list_all, list_any}
use Rattle.std.specs.List.Sorted.{IsStrictlySortedBy}
use Rattle.std.specs.declared.cmp.Ordering.TheVariants.{Less, Greater}
use Rattle.std.specs.Ordering.{is_eq, nat_cmp}
use Rattle.ent_lists.specs.Elements.{and_both, got_on}
use Rattle.ent_lists.proofs.Orders.{is_equal}
use Rattle.ent_value.specs.Kinds.{same_kind}
use Rattle.ent_tree.specs.declared.operand.Comparison.{Comparison}
use Rattle.ent_tree.specs.declared.operand.Test.{Test}
use Rattle.ent_value.specs.Value.{kind_of, value_cmp, row_cmp}
use Rattle.ent_value.specs.declared.value.Kind.{Kind}
use Rattle.ent_value.specs.declared.value.Value.{Value}
use Rattle.ent_semantics.specs.Term.{no_value}
use Rattle.ent_ordinary.specs.Early.{may_compare}
use Rattle.ent_plan.specs.declared.slot.Slot.{Slot}
use Rattle.ent_plan.specs.declared.slot.Slot.TheVariants.{Fixed, Class}
use Rattle.ent_join.specs.Cursor.{column_values, IsAmong, IsAscending}
use Rattle.ent_join.specs.Search.{IsGuide}
use Rattle.ent_join.specs.Index.{Indexed, IsIndexed, begins_so, goes_on, column_of}
use Rattle.ent_join.specs.Index.{candidates_or, candidates_in}
use Rattle.ent_join.specs.declared.frame.Frame.{Frame}
use Rattle.ent_join.specs.Frame.{IsFrame, has_class, slot_there, may_hold, lets_through, are_of_kinds}
use Rattle.ent_join.specs.Frame.{candidates_of}
use Rattle.ent_join.proofs.Begun.{kept_cmp, next_is, next_in_order}

-- ---- one index

-- a test is true of a row of a list where it is true of one, and where it is, one that follows from it is
pub any_kept : (p q : List Value → Bool) → ((row : List Value) → p row ≡ true → q row ≡ true)
    → (rows : List (List Value)) → list_any p rows ≡ true → list_any q rows ≡ true
any_kept p q h [] e = cc
any_kept p q h (row ∷ rows) e = by (λ k. any_kept p q h rows k) (p row) refl e
  where
    or_true : (a b : Bool) → b ≡ true → (a || b) ≡ true
    or_true true b e = refl
    or_true false b e = e

    by : (list_any p rows ≡ true → list_any q rows ≡ true) → (b : Bool) → p row ≡ b
        → (b || list_any p rows) ≡ true → (q row || list_any q rows) ≡ true
    by more true is e = ap (λ b. b || list_any q rows) (h row is)
    by more false is e = or_true (q row) (list_any q rows) (more e)

begins_kept : (beginning rest : List Value) (classes : List ℕ) (row : List Value)
    → begins_so (beginning ++ rest) classes row ≡ true → begins_so beginning classes row ≡ true
begins_kept beginning rest classes row h =
    ap is_eq (kept_cmp beginning rest classes row (is_equal _ h))

goes_on_kept : (beginning rest : List Value) (index : Indexed) → goes_on (beginning ++ rest) index ≡ true
    → goes_on beginning index ≡ true
goes_on_kept beginning rest index h =
    any_kept (begins_so (beginning ++ rest) index.classes) (begins_so beginning index.classes)
    (begins_kept beginning rest index.classes) index.rows h

module _ (beginning : List Value) (classes : List ℕ) (sorted : IsStrictlySortedBy nat_cmp classes) (column : ℕ)
    (is : column_of (length beginning) classes ≡ Some column) where
  abbrev Wide : List Value → Type 0
  Wide row = length row ≡ length classes

  -- the values of rows in order that begin alike
  above : (row : List Value) (rows : List (List Value)) → Wide row → begins_so beginning classes row ≡ true
      → AllByRecursion Wide rows → AllByRecursion (λ other. row_cmp row other ≡ Less) rows
      → AllByRecursion (λ other. value_cmp (slice_index_or row column no_value) other ≢ Greater)
      (column_values column (filter (begins_so beginning classes) rows))
  above row [] wide begun all less = tt
  above row (other ∷ rows) wide begun all less =
      by (begins_so beginning classes other) refl (above row rows wide begun all.1 less.1)
    where
      by : (b : Bool) → begins_so beginning classes other ≡ b
          → AllByRecursion (λ other. value_cmp (slice_index_or row column no_value) other ≢ Greater)
          (column_values column (filter (begins_so beginning classes) rows))
          → AllByRecursion (λ other. value_cmp (slice_index_or row column no_value) other ≢ Greater)
          (column_values column (cond b (other ∷ filter (begins_so beginning classes) rows)
          (filter (begins_so beginning classes) rows)))
      by true e more = (
        next_in_order beginning classes row other column sorted is wide all.0 (is_equal _ begun) (is_equal _ e)
            less.0,
        more,
      )
      by false e more = more

  column_ascends : (rows : List (List Value)) → AllByRecursion Wide rows → IsStrictlySortedBy row_cmp rows
      → IsAscending (column_values column (filter (begins_so beginning classes) rows))
  unfolding IsStrictlySortedBy
  column_ascends [] all up = tt
  column_ascends (row ∷ rows) all up =
      by (begins_so beginning classes row) refl (column_ascends rows all.1 up.1)
    where
      by : (b : Bool) → begins_so beginning classes row ≡ b
          → IsAscending (column_values column (filter (begins_so beginning classes) rows))
          → IsAscending (column_values column (cond b (row ∷ filter (begins_so beginning classes) rows)
          (filter (begins_so beginning classes) rows)))
      by true e more = (above row rows all.0 e all.1 up.0, more)
      by false e more = more

  -- the next value of a list that the index has
  column_has : (next : Value) (rest : List Value) (rows : List (List Value)) → AllByRecursion Wide rows
      → list_any (begins_so (beginning ++ next ∷ rest) classes) rows ≡ true
      → IsAmong next (column_values column (filter (begins_so beginning classes) rows))
  column_has next rest [] all h = cc
  column_has next rest (row ∷ rows) all h =
      by (λ k. column_has next rest rows all.1 k) (begins_so beginning classes row) refl
      (begins_so (beginning ++ next ∷ rest) classes row) refl h
    where
      by : (list_any (begins_so (beginning ++ next ∷ rest) classes) rows ≡ true
          → IsAmong next (column_values column (filter (begins_so beginning classes) rows)))
          → (b : Bool) → begins_so beginning classes row ≡ b
          → (d : Bool) → begins_so (beginning ++ next ∷ rest) classes row ≡ d
          → (d || list_any (begins_so (beginning ++ next ∷ rest) classes) rows) ≡ true
          → IsAmong next (column_values column (cond b (row ∷ filter (begins_so beginning classes) rows)
          (filter (begins_so beginning classes) rows)))
      by more true e true f h = inl (next_is beginning rest next classes row column sorted is all.0 (is_equal _ f))
      by more true e false f h = inr (more h)
      by more false e true f h =
          let k : begins_so beginning classes row ≡ true = begins_kept beginning (next ∷ rest) classes row f in
          absurd cc
      by more false e false f h = more h

-- ---- all indexes

candidates_ascend : (beginning : List Value) (indexes : List Indexed) → AllByRecursion IsIndexed indexes
    → IsAscending (candidates_in indexes beginning)
candidates_ascend beginning [] all = tt
candidates_ascend beginning (index ∷ indexes) all =
    by (candidates_ascend beginning indexes all.1) (column_of (length beginning) index.classes) refl
  where
    by : IsAscending (candidates_in indexes beginning)
        → (column : Option ℕ) → column_of (length beginning) index.classes ≡ column
        → IsAscending (candidates_or beginning index (candidates_in indexes beginning) column)
    by others (Some column) e =
        column_ascends beginning index.classes all.0.classes column e index.rows all.0.widths all.0.rows
    by others None e = others

candidates_have : (beginning : List Value) (next : Value) (rest : List Value) (indexes : List Indexed)
    → AllByRecursion IsIndexed indexes
    → list_any (has_class (length beginning)) indexes ≡ true
    → list_all (goes_on (beginning ++ next ∷ rest)) indexes ≡ true
    → IsAmong next (candidates_in indexes beginning)
candidates_have beginning next rest [] all held h = cc
candidates_have beginning next rest (index ∷ indexes) all held h =
    by (λ k. candidates_have beginning next rest indexes all.1 k (and_both _ _ h).1)
    (column_of (length beginning) index.classes) refl held
  where
    passes : (goes_on (beginning ++ next ∷ rest) index ≡ true)
        × (list_all (goes_on (beginning ++ next ∷ rest)) indexes ≡ true)
    passes = and_both _ _ h

    by : (list_any (has_class (length beginning)) indexes ≡ true → IsAmong next (candidates_in indexes beginning))
        → (column : Option ℕ) → column_of (length beginning) index.classes ≡ column
        → (is_some column || list_any (has_class (length beginning)) indexes) ≡ true
        → IsAmong next (candidates_or beginning index (candidates_in indexes beginning) column)
    by others (Some column) e held =
        column_has beginning index.classes all.0.classes column e next rest index.rows all.0.widths passes.0
    by others None e held = others held

-- ---- tests

pub may_compare_kept : (comparison : Comparison) (left right early late : Option Value)
    → ((v : Value) → early ≡ Some v → left ≡ Some v) → ((v : Value) → late ≡ Some v → right ≡ Some v)
    → may_compare comparison left right ≡ true → may_compare comparison early late ≡ true
may_compare_kept comparison left right None late h k e = none late
  where
    none : (late : Option Value) → may_compare comparison None late ≡ true
    none None = refl
    none (Some v) = refl
may_compare_kept comparison left right (Some v) None h k e = refl
may_compare_kept comparison left right (Some v) (Some w) h k e =
    let there : may_compare comparison (Some v) right ≡ true =
    subst (λ o. may_compare comparison o right ≡ true) (h v refl) e in
    subst (λ o. may_compare comparison (Some v) o ≡ true) (k w refl) there

slot_kept : (beginning rest : List Value) (slot : Slot) (v : Value) → slot_there beginning slot ≡ Some v
    → slot_there (beginning ++ rest) slot ≡ Some v
slot_kept beginning rest (Fixed value) v h = h
slot_kept beginning rest (Class number) v h = got_on beginning rest number v h

may_hold_kept : (beginning rest : List Value) (test : Test Slot) → may_hold (beginning ++ rest) test ≡ true
    → may_hold beginning test ≡ true
may_hold_kept beginning rest test h =
    may_compare_kept test.comparison (slot_there (beginning ++ rest) test.left)
    (slot_there (beginning ++ rest) test.right) (slot_there beginning test.left) (slot_there beginning test.right)
    (slot_kept beginning rest test.left) (slot_kept beginning rest test.right) h

-- ---- together

pub all_kept : {X : Type 0} (p q : X → Bool) → ((x : X) → p x ≡ true → q x ≡ true) → (xs : List X)
    → list_all p xs ≡ true → list_all q xs ≡ true
all_kept p q h [] e = refl
all_kept p q h (x ∷ xs) e =
    let k = and_both (p x) (list_all p xs) e in
    ap (λ b. b && list_all q xs) (h x k.0) ∙ all_kept p q h xs k.1

kinds_kept : (kinds : List Kind) (beginning rest : List Value) → are_of_kinds kinds (beginning ++ rest) ≡ true
    → are_of_kinds kinds beginning ≡ true
kinds_kept kinds [] rest h = none kinds
  where
    none : (kinds : List Kind) → are_of_kinds kinds [] ≡ true
    none [] = refl
    none (kind ∷ kinds) = refl
kinds_kept [] (value ∷ beginning) rest h = cc
kinds_kept (kind ∷ kinds) (value ∷ beginning) rest h =
    let k = and_both (same_kind (kind_of value) kind) (are_of_kinds kinds (beginning ++ rest)) h in
    ap (λ b. b && are_of_kinds kinds beginning) k.0 ∙ kinds_kept kinds beginning rest k.1

pub frame_guides : (count : ℕ) (frame : Frame) → IsFrame count frame
    → IsGuide count (candidates_of frame) (lets_through frame)
frame_guides count frame is = record {
  ascending = λ beginning. candidates_ascend beginning frame.indexes is.indexed;
  complete = λ beginning next rest wide h.
      candidates_have beginning next rest frame.indexes is.indexed (is.held (length beginning) (omega arith))
      (and_both _ _ (and_both _ _ h).1).0;
  kept = λ beginning rest h.
      let all = and_both (are_of_kinds frame.kinds (beginning ++ rest))
      (list_all (goes_on (beginning ++ rest)) frame.indexes && list_all (may_hold (beginning ++ rest)) frame.tests) h in
      let k = and_both (list_all (goes_on (beginning ++ rest)) frame.indexes)
      (list_all (may_hold (beginning ++ rest)) frame.tests) all.1 in
      ap (λ b. b && (list_all (goes_on beginning) frame.indexes && list_all (may_hold beginning) frame.tests))
      (kinds_kept frame.kinds beginning rest all.0)
      ∙ ap (λ b. b && list_all (may_hold beginning) frame.tests)
      (all_kept (goes_on (beginning ++ rest)) (goes_on beginning) (goes_on_kept beginning rest) frame.indexes k.0)
      ∙ all_kept (may_hold (beginning ++ rest)) (may_hold beginning) (may_hold_kept beginning rest) frame.tests k.1;
}
