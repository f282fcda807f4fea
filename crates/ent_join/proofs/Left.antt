-- A row that a tuple is under some values is refused by no test that holds of these values.
use Rattle.std.proofs.Common.{◌≡◌, ℕ, ◌<◌, Bool, true, false, cond, List, [], ◌∷◌, length, map}
use Rattle.std.proofs.Common.{Option, Some, None, refl, sym, ap, subst, ◌∙◌}
use Rattle.std.specs.Prelude.{◌==◌, ◌&&◌, slice_get, slice_index_or}
use Rattle.std.specs.Cmp.{Equal-is}
use Rattle.std.specs.List.{AllByRecursion, filter, list_all}
use Rattle.std.specs.Ordering.{eq_by_cmp}
use Rattle.std.proofs.lemmas.Bool.{eqb-true}
use Rattle.std.proofs.lemmas.Option.{slice_get-get_or}
use Rattle.ent_lists.specs.Elements.{and_both}
use Rattle.ent_value.specs.Value.{row_cmp}
use Rattle.ent_value.specs.Order.{exact_rows}
use Rattle.ent_value.specs.declared.value.Value.{Value}
use Rattle.ent_tree.specs.declared.operand.Test.{Test}
use Rattle.ent_semantics.specs.Term.{no_value}
use Rattle.ent_plan.specs.Plan.{slot_value}
use Rattle.ent_plan.specs.declared.slot.Slot.{Slot}
use Rattle.ent_plan.specs.declared.slot.Slot.TheVariants.{Fixed, Class}
use Rattle.ent_join.specs.Alone.{is_left, is_test_of, may_hold_in, slot_in}
use Rattle.ent_join.specs.Frame.{may_hold, slot_there}
use Rattle.ent_join.specs.Keyed.{class_numbers, value_under}
use Rattle.ent_join.proofs.Guiding.{all_kept, may_compare_kept}
use Rattle.ent_join.proofs.Keys.{IsBelow}

-- what holds of a whole list holds of what is left of it
pub filter_keeps : {X : Type 0} (p q : X → Bool) (xs : List X) → list_all p xs ≡ true
    → list_all p (filter q xs) ≡ true
filter_keeps p q [] h = refl
filter_keeps p q (x ∷ xs) h =
    let k = and_both (p x) (list_all p xs) h in
    by (q x) k.0 (filter_keeps p q xs k.1)
  where
    by : (b : Bool) → p x ≡ true → list_all p (filter q xs) ≡ true
        → list_all p (cond b (x ∷ filter q xs) (filter q xs)) ≡ true
    by true e more = (λ i. e i && list_all p (filter q xs)) ∙ more
    by false e more = more

module _ (values : List Value) where
  -- the value that a tuple has under a class is the value of the class
  value_known : (columns : List Slot) (number : ℕ) (v : Value) → AllByRecursion (IsBelow values) (class_numbers columns)
      → value_under number columns (map (slot_value values) columns) ≡ Some v → slice_get values number ≡ Some v
  value_known [] number v below h = cc
  value_known (Fixed known ∷ columns) number v below h = value_known columns number v below h
  value_known (Class other ∷ columns) number v below h =
      by (other == number) refl (λ k. value_known columns number v below.1 k) h
    where
      by : (b : Bool) → (other == number) ≡ b
          → (value_under number columns (map (slot_value values) columns) ≡ Some v → slice_get values number ≡ Some v)
          → cond b (Some (slot_value values (Class other)))
          (value_under number columns (map (slot_value values) columns)) ≡ Some v
          → slice_get values number ≡ Some v
      by true is more e =
          ap (slice_get values) (sym (eqb-true other number is)) ∙ slice_get-get_or values other no_value below.0 ∙ e
      by false is more e = more e

  slot_known : (columns : List Slot) (slot : Slot) (v : Value) → AllByRecursion (IsBelow values) (class_numbers columns)
      → slot_in columns (map (slot_value values) columns) slot ≡ Some v → slot_there values slot ≡ Some v
  slot_known columns (Fixed known) v below h = h
  slot_known columns (Class number) v below h = value_known columns number v below h

  test_known : (columns : List Slot) (test : Test Slot) → AllByRecursion (IsBelow values) (class_numbers columns)
      → may_hold values test ≡ true → may_hold_in columns (map (slot_value values) columns) test ≡ true
  test_known columns test below h =
      may_compare_kept test.comparison (slot_there values test.left) (slot_there values test.right)
      (slot_in columns (map (slot_value values) columns) test.left)
      (slot_in columns (map (slot_value values) columns) test.right)
      (λ v e. slot_known columns test.left v below e) (λ v e. slot_known columns test.right v below e) h

  pub tuple_left : (tests : List (Test Slot)) (columns : List Slot)
      → AllByRecursion (IsBelow values) (class_numbers columns) → list_all (may_hold values) tests ≡ true
      → (row : List Value) → eq_by_cmp row_cmp (map (slot_value values) columns) row ≡ true
      → is_left tests columns row ≡ true
  tuple_left tests columns below hold row same =
      let tuple = map (slot_value values) columns in
      let is : tuple ≡ row = exact_rows tuple row ((Equal-is (row_cmp tuple row)).0 same) in
      subst (λ r. is_left tests columns r ≡ true) is
      (filter_keeps (may_hold_in columns tuple) (is_test_of columns) tests
      (all_kept (may_hold values) (may_hold_in columns tuple) (λ test h. test_known columns test below h) tests hold))
