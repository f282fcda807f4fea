-- Which rows stand after a change, row by row.
use Rattle.std.proofs.Common.{◌≡◌, ℕ, Bool, true, false, cond, not, List, [], ◌∷◌, refl, sym, ap, ◌∙◌, inl, inr}
use Rattle.std.specs.Prelude.{Result, Ok, Err, nat_le, Contains, IsTrue, IsFalse, ◌↔◌, ◌⊎◌, ◌||◌, ◌&&◌}
use Rattle.std.specs.List.{list_any}
use Rattle.std.specs.Ordering.{eq_by_cmp}
use Rattle.std.proofs.lemmas.Bool.{or_cases}
use Rattle.std.proofs.lemmas.Map.Views.{list_any-from_Contains, Contains-from_any}
use Rattle.ent_lists.specs.Sets as set
use Rattle.ent_lists.specs.Laws.{contains-insert, contains-retain, contains-insert_all, contains-ascending}
use Rattle.ent_lists.specs.Laws.{contains-without_all, one_passing, passes_where}
use Rattle.ent_lists.specs.Elements.{and_both, or_second, turned}
use Rattle.ent_value.specs.declared.value.Value.{Value}
use Rattle.ent_value.specs.Value.{row_cmp}
use Rattle.ent_value.specs.Order.{rows_total, exact_rows, rows_equal}
use Rattle.ent_rel.specs.Relation.{RowSet, full}
use Rattle.ent_rel.specs.ByRow.{InsertsOne, DeletesMatches, ReplacesMatches, ChangesRows, IsImage}
use Rattle.ent_value.specs.Refusal.{◌>>=◌}
use Rattle.ent_rel.specs.Change.{images_of}
use Rattle.ent_value.specs.declared.limits.TheConstants.{MOST_ROWS}
use Rattle.ent_rel.proofs.Lists.{same_rows}

cond_is : {X : Type 0} (b : Bool) (x y : X) → cond b (Ok x) (Err full) ≡ Ok y → x ≡ y
cond_is true x y e = cc
cond_is false x y e = absurd cc

-- the rows that pass a test
stays_where : (rows : RowSet) (test : List Value → Bool) (q : List Value)
    → set.contains (set.retain rows test) q ≡ (set.contains rows q && test q)
stays_where rows test q = contains-retain rows_total rows test q (λ x e. sym (ap test (exact_rows q x e)))

pub inserts_one : InsertsOne
inserts_one rows after row count e q =
    let is : (cond (set.contains rows row) 0 1, set.insert rows row) ≡ (count, after) = cond_is (nat_le (set.len
    (set.insert rows row)) MOST_ROWS) (cond (set.contains rows row) 0 1, set.insert rows row) (count, after) e in
    let told : set.contains after q ≡ (eq_by_cmp row_cmp q row || set.contains rows q) = ap (λ s. set.contains s q)
    (sym (ap (λ p. p.1) is)) ∙ contains-insert rows_total exact_rows rows row q in (
      λ here. elim (or_cases (eq_by_cmp row_cmp q row) (set.contains rows q) (sym told
          ∙ here)) [ inl same ↦ inl (same_rows q row same) | inr old ↦ inr old ],
      λ either. told ∙ elim either [
        | inl same ↦ ap (λ b. b || set.contains rows q) (ap (λ r. eq_by_cmp row_cmp q r)
            (sym same) ∙ rows_equal.refl q)
        | inr old ↦ or_second _ _ old
      ],
    )

pub deletes_matches : DeletesMatches
deletes_matches rows test q =
    let told = stays_where rows (λ row. not (test row)) q in (
      λ here. let p = and_both _ _ (sym told ∙ here) in (p.0, turned _ p.1),
      λ p. told ∙ (λ i. p.0 i && not (p.1 i)),
    )

-- whether there is an image that passes
abbrev passes_made : {E : Type 0} → (List Value → Bool) → Result (List Value) E → Bool
passes_made t (Ok new) = t new
passes_made t (Err fault) = false

-- where all rows have images, one of these passes where that of some row does
any_images : {E : Type 0} (t : List Value → Bool) (image : List Value
    → Result (List Value) E) (rows images : List (List Value)) → images_of image rows ≡ Ok images
    → list_any t images ≡ list_any (λ row. passes_made t (image row)) rows
any_images t image [] images so = let none : images ≡ [] = cc in ap (list_any t) none
any_images {E} t image (row ∷ rows) images so = by (image row) (images_of image rows) refl refl so
    (any_images t image rows)
  where
    by : (first : Result (List Value) E) (others : Result (List (List Value)) E) → image row ≡ first
        → images_of image rows ≡ others → (first >>= λ y. others >>= λ ys. Ok (y ∷ ys)) ≡ Ok images
        → ((ys : List (List Value)) → images_of image rows ≡ Ok ys
        → list_any t ys ≡ list_any (λ row. passes_made t (image row)) rows)
        → list_any t images ≡ (passes_made t (image row) || list_any (λ row. passes_made t (image row)) rows)
    by (Ok y) (Ok ys) e f h later =
        let is : images ≡ y ∷ ys = cc in
        ap (list_any t) is ∙ (λ i. passes_made t (sym e i) || later ys f i)
    by (Ok y) (Err fault) e f h later = absurd cc
    by (Err fault) others e f h later = absurd cc

image_is : {E : Type 0} (q : List Value) (r : Result (List Value) E) → passes_made (eq_by_cmp row_cmp q) r ≡ true
    → r ≡ Ok q
image_is q (Err fault) h = absurd cc
image_is q (Ok y) h = ap (λ new. Ok new) (sym (same_rows q y h))

module _ {E : Type 0} (rows : RowSet) (test : List Value → Bool) (image : List Value
    → Result (List Value) E) (images : List (List Value)) (made : images_of image (set.ascending
    (set.retain rows test)) ≡ Ok images) (q : List Value) where
  -- a row is the image of one that stood and matches
  image_there : list_any (eq_by_cmp row_cmp q) images ≡ true → IsImage rows test image q
  image_there h =
      let passes = λ (k : List Value). passes_made (eq_by_cmp row_cmp q) (image k) in
      let one = one_passing rows_total exact_rows passes (set.ascending (set.retain rows test)) (sym (any_images
      (eq_by_cmp row_cmp q) image (set.ascending (set.retain rows test)) images made) ∙ h) in
      let old = and_both (set.contains rows one.0) (test one.0) (sym (stays_where rows test one.0)
      ∙ contains-ascending (set.retain rows test) one.0 ∙ one.2) in
      (one.0, old.0, old.1, image_is q (image one.0) one.1)

  there_image : IsImage rows test image q → list_any (eq_by_cmp row_cmp q) images ≡ true
  there_image is =
      let passes = λ (k : List Value). passes_made (eq_by_cmp row_cmp q) (image k) in
      let here : set.contains (set.retain rows test) is.0 ≡ true = stays_where rows test is.0
      ∙ (λ i. is.1 i && is.2 i) in
      any_images (eq_by_cmp row_cmp q) image (set.ascending (set.retain rows test)) images made
      ∙ passes_where rows_total exact_rows passes is.0 (ap (passes_made (eq_by_cmp row_cmp q)) is.3
      ∙ rows_equal.refl q) (set.ascending (set.retain rows test)) (sym (contains-ascending
      (set.retain rows test) is.0) ∙ here)

pub replaces_matches : {E : Type 0} → ReplacesMatches E
replaces_matches {E} rows after test image count e q = by (images_of image (set.ascending
    (set.retain rows test))) refl e
  where
    by : (r : Result (List (List Value)) E) → images_of image (set.ascending (set.retain rows test)) ≡ r
        → (◌>>=◌ {B = ℕ × RowSet} r (λ images. Ok (
          set.len (set.retain rows test),
          set.insert_all (set.retain rows
              (λ row. not (test row))) images,
        ))) ≡ Ok (count, after)
        → IsTrue (set.contains after q) ↔ (IsImage rows test image q ⊎ (IsTrue (set.contains rows q) × IsFalse
        (test q)))
    by (Err fault) made h = absurd cc
    by (Ok images) made h =
        let kept : RowSet = set.retain rows (λ row. not (test row)) in
        let is : ◌≡◌ {A = ℕ × RowSet} (set.len (set.retain rows test), set.insert_all kept images)
        (count, after) = cc in
        let told : set.contains after q ≡ (list_any (eq_by_cmp row_cmp q) images || set.contains kept q) = ap
        (λ s. set.contains s q) (sym (ap (λ p. p.1) is))
        ∙ contains-insert_all rows_total exact_rows kept images q in
        let stays = deletes_matches rows test q in (
          λ here. elim (or_cases (list_any (eq_by_cmp row_cmp q) images) (set.contains kept q) (sym told
              ∙ here)) [ inl new ↦ inl (image_there rows test image images made q new) | inr old ↦ inr (stays.0 old) ],
          λ either. told ∙ elim either [
            | inl new ↦ ap (λ b. b || set.contains kept q)
                (there_image rows test image images made q new)
            | inr old ↦ or_second _ _ (stays.1 old)
          ],
        )

none_there : (removed : List (List Value)) (q : List Value) → (Contains removed q → ⊥)
    → list_any (eq_by_cmp row_cmp q) removed ≡ false
none_there removed q none = by (list_any (eq_by_cmp row_cmp q) removed) refl
  where
    by : (b : Bool) → list_any (eq_by_cmp row_cmp q) removed ≡ b → list_any (eq_by_cmp row_cmp q) removed ≡ false
    by true is = absurd (none (Contains-from_any same_rows q removed is))
    by false is = is

pub changes_rows : ChangesRows
changes_rows rows removed added q =
    let kept : RowSet = set.without_all rows removed in
    let told : set.contains (set.insert_all kept added) q ≡ (list_any
    (eq_by_cmp row_cmp q) added || set.contains kept q) = contains-insert_all rows_total exact_rows kept added q in
    let left : set.contains kept q ≡ (set.contains rows q && not (list_any
    (eq_by_cmp row_cmp q) removed)) = contains-without_all rows_total exact_rows rows removed q in (
      λ here. elim (or_cases (list_any (eq_by_cmp row_cmp q) added) (set.contains kept q) (sym told ∙ here)) [
        | inl new ↦ inl (Contains-from_any same_rows q added new)
        | inr old ↦ let p = and_both _ _ (sym left ∙ old) in inr (
          p.0,
          λ there. true_false (sym
              (list_any-from_Contains rows_equal q removed there) ∙ turned _ p.1),
        )
      ],
      λ either. told ∙ elim either [
        | inl new ↦ ap (λ b. b || set.contains kept q) (list_any-from_Contains rows_equal q added new)
        | inr old ↦ or_second _ _ (left ∙ (λ i. old.0 i && not (none_there removed q old.1 i)))
      ],
    )
  where
    true_false : true ≡ false → ⊥
    true_false e = cc
