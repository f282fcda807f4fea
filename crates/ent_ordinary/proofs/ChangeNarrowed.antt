-- Changes of the rows with these first values, and of all rows.
use Rattle.std.proofs.Common.{◌≡◌, Bool, true, false, not, List, refl, sym, ap, ◌∙◌}
use Rattle.std.specs.Prelude.{IsTrue, ◌&&◌, Result, Ok}
use Rattle.ent_lists.specs.Sets as set
use Rattle.ent_lists.specs.Laws.{same_set, contains-retain}
use Rattle.ent_value.specs.Refusal.{◌>>=◌}
use Rattle.ent_value.specs.Order.{rows_total, exact_rows}
use Rattle.ent_value.specs.declared.value.Value.{Value}
use Rattle.ent_rel.specs.Relation.{RowSet}
use Rattle.ent_rel.specs.Change.{deletion, replacement, images_of}
use Rattle.ent_ordinary.proofs.Narrowed.{agree}

retain_same : (s : RowSet) (p q : List Value → Bool)
    → ((row : List Value) → IsTrue (set.contains s row) → p row ≡ q row) → set.retain s p ≡ set.retain s q
retain_same s p q same = same_set rows_total exact_rows _ _ (λ row.
    contains-retain rows_total s p row (λ x e. sym (ap p (exact_rows row x e)))
    ∙ by row (set.contains s row) refl
    ∙ sym (contains-retain rows_total s q row (λ x e. sym (ap q (exact_rows row x e)))))
  where
    by : (row : List Value) (b : Bool) → set.contains s row ≡ b
        → (set.contains s row && p row) ≡ (set.contains s row && q row)
    by row true e = ap (λ c. set.contains s row && c) (same row e)
    by row false e = ap (λ b. b && p row) e ∙ sym (ap (λ b. b && q row) e)

-- tests that were made ready agree with those of the statement, which want these first values
module _ (s : RowSet) (first prepared met : List Value → Bool) (same : (row : List Value) → prepared row ≡ met row)
    (wants : (row : List Value) → IsTrue (set.contains s row) → IsTrue (met row) → IsTrue (first row)) where
  retained : set.retain s (λ row. first row && prepared row) ≡ set.retain s met
  retained = retain_same s _ _ (agree s first prepared met same wants)

  left : set.retain s (λ row. not (first row && prepared row)) ≡ set.retain s (λ row. not (met row))
  left = retain_same s _ _ (λ row here. ap not (agree s first prepared met same wants row here))

  pub deletion_met : deletion s (λ row. first row && prepared row) ≡ deletion s met
  deletion_met = λ i. (set.len (retained i), left i)

  pub replacement_met : {E : Type 0} (image : List Value → Result (List Value) E)
      → replacement s (λ row. first row && prepared row) image ≡ replacement s met image
  replacement_met image =
      λ i. images_of image (set.ascending (retained i))
      >>= λ images. Ok (set.len (retained i), set.insert_all (left i) images)
