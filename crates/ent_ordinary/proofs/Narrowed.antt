-- Tests over the rows with these first values, and over all rows.
use Rattle.std.proofs.Common.{◌≡◌, Bool, true, false, cond, List, [], ◌∷◌, get_or, refl, sym, ap, ◌∙◌}
use Rattle.std.specs.Prelude.{IsTrue, ◌&&◌}
use Rattle.std.specs.List.{filter, AllByRecursion}
use Rattle.std.proofs.lemmas.List.Elements.{recursion_from_All, All-contains_itself}
use Rattle.std.proofs.lemmas.Map.Views.{list_any-from_Contains}
use Rattle.ent_lists.specs.Sets as set
use Rattle.ent_lists.specs.Laws.{contains-ascending}
use Rattle.ent_value.specs.Order.{rows_equal}
use Rattle.ent_value.specs.declared.value.Value.{Value}
use Rattle.ent_rel.specs.Relation.{RowSet}

-- each row of a set in order is in the set
pub in_order : (s : RowSet) → AllByRecursion (λ row. IsTrue (set.contains s row)) (set.ascending s)
in_order s =
    let rows = set.ascending s in
    recursion_from_All (λ row. IsTrue (set.contains s row)) rows (λ k d h.
    let row = get_or rows k d in
    contains-ascending s row ∙ list_any-from_Contains rows_equal row rows (All-contains_itself rows k d h))

-- tests that were made ready agree with those of the statement, which want these first values
module _ (s : RowSet) (first prepared met : List Value → Bool) (same : (row : List Value) → prepared row ≡ met row)
    (wants : (row : List Value) → IsTrue (set.contains s row) → IsTrue (met row) → IsTrue (first row)) where
  pub agree : (row : List Value) → IsTrue (set.contains s row) → (first row && prepared row) ≡ met row
  agree row here = by (met row) refl
    where
      by : (b : Bool) → met row ≡ b → (first row && prepared row) ≡ met row
      by true e = ap (λ a. a && prepared row) (wants row here e) ∙ same row
      by false e = ap (λ a. first row && a) (same row ∙ e) ∙ none (first row) ∙ sym e
        where
          none : (a : Bool) → (a && false) ≡ false
          none true = refl
          none false = refl

  narrowed : (rows : List (List Value)) → AllByRecursion (λ row. IsTrue (set.contains s row)) rows
      → filter prepared (filter first rows) ≡ filter met rows
  narrowed [] all = refl
  narrowed (row ∷ rows) all = by (first row) (agree row all.0) (narrowed rows all.1)
    where
      by : (a : Bool) → (a && prepared row) ≡ met row → filter prepared (filter first rows) ≡ filter met rows
          → filter prepared (cond a (row ∷ filter first rows) (filter first rows))
          ≡ cond (met row) (row ∷ filter met rows) (filter met rows)
      by true e h = λ i. cond (e i) (row ∷ h i) (h i)
      by false e h = h ∙ ap (λ b. cond b (row ∷ filter met rows) (filter met rows)) e

  pub rows_met : filter prepared (filter first (set.ascending s)) ≡ filter met (set.ascending s)
  rows_met = narrowed (set.ascending s) (in_order s)
