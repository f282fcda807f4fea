-- What the calls on a table mean, case by case.
use Rattle.std.proofs.Common.{◌≡◌, ℕ, ◌+◌, ◌≤◌, ◌<◌, Bool, true, false, cond, not, List, [], ◌∷◌, length, refl, sym}
use Rattle.std.proofs.Common.{ap, subst, inl, inr, ◌∙◌, arith, ◌++◌, take}
use Rattle.std.specs.Prelude.{Result, Ok, Err, IfOk, IsOk, nat_le}
use Rattle.std.specs.Result.{is_ok}
use Rattle.std.specs.List.{filter, IsDistinct}
use Rattle.std.specs.Ordering.{eq_by_cmp}
use Rattle.std.proofs.lemmas.Bool.{le-leb, lt-leb}
use Rattle.std.proofs.lemmas.List.{take_all}
use Rattle.std.specs.List.Sorted.{IsPermutation, IsStrictlySortedBy}
use Rattle.std.proofs.lemmas.List.Sorted.{list_any-IsPermutation}
use Rattle.std.proofs.lemmas.List.Kept.{IsStrictlySortedBy-filter}
use Rattle.std.proofs.lemmas.Map.Keys.{IsDistinct-from_sorted}
use Rattle.ent_lists.specs.Sets as set
use Rattle.ent_lists.specs.Laws.{ascending-from_list, is_sorted_from, len-insert, without-list, insert_there}
use Rattle.ent_lists.specs.Laws.{without-nothing, without-filter, len-distinct, from_list-filter, IsDistinct-filter}
use Rattle.ent_value.specs.Refusal.{◌>>=◌, Gives, Refuses}
use Rattle.ent_value.specs.declared.refusal.Refusal.{Refusal}
use Rattle.ent_value.specs.declared.refusal.Refusal.TheVariants.{Memory, Fault}
use Rattle.ent_value.specs.declared.value.Value.{Value}
use Rattle.ent_value.specs.declared.value.Kind.{Kind}
use Rattle.ent_value.specs.Value.{row_cmp}
use Rattle.ent_value.specs.Order.{rows_total, exact_rows}
use Rattle.ent_rel.specs.Relation.{RowSet, Relation, full, bounded}
use Rattle.ent_rel.specs.Part.{IsPart}
use Rattle.ent_rel.specs.Closure.{RefusesUnless}
use Rattle.ent_rel.specs.Change.{insertion, deletion, application, changed_rows, replacement, images_of}
use Rattle.ent_rel.specs.declared.fault.TableFull.{TableFull}
use Rattle.ent_value.specs.declared.limits.TheConstants.{MOST_ROWS}
use Rattle.ent_rel.proofs.Lists.{from_append}
use Rattle.ent_rel.proofs.Parts.{stays, len-changed}

pub bounded_within : {X : Type 0} (s : RowSet) (x : X) → set.len s ≤ MOST_ROWS → bounded s x ≡ Ok x
bounded_within s x h = ap (λ b. cond b (Ok x) (Err full)) (le-leb _ _ h)

pub bounded_beyond : {X : Type 0} (s : RowSet) (x : X) → MOST_ROWS < set.len s → bounded s x ≡ Err full
bounded_beyond s x h = ap (λ b. cond b (Ok x) (Err full)) (lt-leb _ _ h)

pub insertion_there : (s : RowSet) (row : List Value) → set.contains s row ≡ true → set.len s ≤ MOST_ROWS
    → insertion s row ≡ Ok (0, s)
insertion_there s row here small =
    (λ i. bounded (insert_there rows_total exact_rows s row here i) (
      cond
          (here i) 0 1,
      insert_there rows_total exact_rows s row here i,
    )) ∙ bounded_within s (0, s) small

len_more : (s : RowSet) (row : List Value) → set.contains s row ≡ false → set.len (set.insert s row) ≡ set.len s + 1
len_more s row absent = len-insert rows_total exact_rows s row ∙ ap (λ b. cond b (set.len s) (set.len s + 1)) absent

pub insertion_more : (s : RowSet) (row : List Value) → set.contains s row ≡ false → set.len s < MOST_ROWS
    → insertion s row ≡ Ok (1, set.insert s row)
insertion_more s row absent small =
    ap (λ b. bounded (set.insert s row) (cond b 0 1, set.insert s row)) absent
    ∙ bounded_within (set.insert s row) (1, set.insert s row) (omega (arith, len_more s row absent))

pub insertion_full : (s : RowSet) (row : List Value) → set.contains s row ≡ false → MOST_ROWS ≤ set.len s
    → insertion s row ≡ Err full
insertion_full s row absent much =
    ap (λ b. bounded (set.insert s row) (cond b 0 1, set.insert s row)) absent
    ∙ bounded_beyond (set.insert s row) (1, set.insert s row) (omega (arith, len_more s row absent))

pub changed_none : (s : RowSet) → changed_rows s [] [] ≡ s
changed_none s = without-nothing rows_total exact_rows s

pub changed_added : (s : RowSet) (row : List Value) → changed_rows s [] (row ∷ []) ≡ set.insert s row
changed_added s row = ap (λ x. set.insert x row) (without-nothing rows_total exact_rows s)

len_retain : (rows : List (List Value)) (passes : List Value → Bool) → IsDistinct (eq_by_cmp row_cmp) rows
    → set.len (set.retain (set.from_list {R = row_cmp} rows) passes) ≡ length (filter passes rows)
len_retain rows passes distinct = ap set.len (sym (from_list-filter rows_total exact_rows passes rows))
    ∙ len-distinct rows_total exact_rows (filter passes rows) (IsDistinct-filter _ passes rows distinct)

pub deletion_filter : (rows : List (List Value)) (passes : List Value → Bool) → IsDistinct (eq_by_cmp row_cmp) rows
    → deletion (set.from_list rows) passes ≡ (
      length (filter passes rows),
      changed_rows (set.from_list rows)
          (filter passes rows) [],
    )
deletion_filter rows passes distinct i = (
  len_retain rows passes distinct i,
  sym
      (without-filter rows_total exact_rows passes rows) i,
)

-- the rows of a table that are not among those taken out
pub without_rows : (rows removed : List (List Value)) → set.from_list {R = row_cmp} (filter
    (stays removed) rows) ≡ set.without_all (set.from_list rows) removed
without_rows = without-list rows_total exact_rows

pub apply_within : (s : RowSet) (removed added : List (List Value))
    → set.len (changed_rows s removed added) ≤ MOST_ROWS → application s removed added ≡ Ok
    (changed_rows s removed added)
apply_within s removed added h = bounded_within (changed_rows s removed added) (changed_rows s removed added) h

-- Changes that fit.

pub fits_none : (s : RowSet) → set.len s ≤ MOST_ROWS → IsOk (application s [] [])
fits_none s h = ap is_ok (apply_within s [] [] (rw (changed_none s) h))

pub fits_added : (s : RowSet) (row : List Value) → set.contains s row ≡ false → set.len s < MOST_ROWS
    → IsOk (application s [] (row ∷ []))
fits_added s row absent h = ap is_ok (apply_within s [] (row ∷ []) (rw (changed_added s row) (omega
    (arith, len_more s row absent))))

pub fits_part : (s : RowSet) (rows removed added : List (List Value)) → set.from_list rows ≡ s
    → IsDistinct (eq_by_cmp row_cmp) rows → length rows ≤ MOST_ROWS → IsPart rows removed
    → length added ≤ length removed → IsOk (application s removed added)
fits_part s rows removed added view distinct small part le =
    let P : RowSet → Type 0 = λ t. IsOk (application t removed added) in
    subst P view (ap is_ok (apply_within (set.from_list rows) removed added (omega
    (arith, len-changed rows removed added distinct part le))))

-- the meaning over a table's list
pub replaced : {E : Type 0} (s : RowSet) (rows removed : List (List Value)) (passes : List Value
    → Bool) (image : List Value → Result (List Value) E) → set.from_list rows ≡ s → IsStrictlySortedBy row_cmp rows
    → removed ≡ filter passes rows
    → replacement s passes image ≡ (images_of image removed >>= λ images. Ok
    (length removed, changed_rows s removed images))
replaced s rows removed passes image view sorted is =
    let kept : RowSet = set.retain (set.from_list {R = row_cmp} rows) passes in
    let in_order : set.ascending kept ≡ filter passes rows = ap set.ascending (sym
    (from_list-filter rows_total exact_rows passes rows))
    ∙ ascending-from_list rows_total exact_rows (filter passes rows) (is_sorted_from row_cmp (filter passes rows)
    (IsStrictlySortedBy-filter row_cmp passes rows sorted)) in
    ap (λ t. replacement t passes image) (sym view)
    ∙ (λ i. images_of image (in_order i) >>= λ images. Ok (
      len_retain rows passes
          (IsDistinct-from_sorted row_cmp rows sorted) i,
      set.insert_all (sym
          (without-filter rows_total exact_rows passes rows) i) images,
    ))
    ∙ (λ i. images_of image (sym is i) >>= λ images. Ok (length (sym is i), changed_rows (view i) (sym is i) images))

-- what is told of images that are made, or refused
pub replaced_so : {E : Type 0} (s : RowSet) (removed images : List (List Value)) (n : ℕ) (image : List Value
    → Result (List Value) E) (meant : Result (ℕ × RowSet) E)
    → meant ≡ (images_of image removed >>= λ new. Ok (length removed, changed_rows s removed new))
    → images_of image removed ≡ Ok images → length removed ≡ n
    → meant ≡ Ok (n, changed_rows s removed images)
replaced_so s removed images n image meant e made count = e ∙ ap (λ r. r >>= λ new. Ok
    (length removed, changed_rows s removed new)) made ∙ ap (λ m. Ok (m, changed_rows s removed images)) count

pub not_replaced : {E : Type 0} (s : RowSet) (removed : List (List Value)) (image : List Value
    → Result (List Value) E) (meant : Result (ℕ × RowSet) E) (refusal : Refusal E)
    → meant ≡ (images_of image removed >>= λ new. Ok (length removed, changed_rows s removed new))
    → Refuses refusal (images_of image removed)
    → Refuses refusal meant
not_replaced s removed image meant Memory e h = tt
not_replaced s removed image meant (Fault fault) e h = e ∙ ap (λ r. r >>= λ new. Ok
    (length removed, changed_rows s removed new)) h

pub not_replaced_unless : {E : Type 0} (excused : E → Bool) (s : RowSet) (removed : List (List Value))
    (image : List Value → Result (List Value) E) (meant : Result (ℕ × RowSet) E) (refusal : Refusal E)
    → meant ≡ (images_of image removed >>= λ new. Ok (length removed, changed_rows s removed new))
    → RefusesUnless excused refusal (images_of image removed)
    → RefusesUnless excused refusal meant
not_replaced_unless excused s removed image meant Memory e h = tt
not_replaced_unless excused s removed image meant (Fault error) e (inl excuse) = inl excuse
not_replaced_unless excused s removed image meant (Fault error) e (inr told) =
    inr (e ∙ ap (λ r. r >>= λ new. Ok (length removed, changed_rows s removed new)) told)

both_full : {X Y : Type 0} (b : Bool) (x : X) (y : Y) (fault : TableFull) → cond b (Ok x) (Err full) ≡ Err fault
    → cond b (Ok y) (Err full) ≡ Err fault
both_full true x y fault e = absurd cc
both_full false x y fault e = refl

rows_ok : (b : Bool) (kinds : List Kind) (rows : RowSet) (t : Relation)
    → cond b (Ok (record { kinds = kinds; rows = rows })) (Err full) ≡ Ok t → cond b (Ok rows) (Err full) ≡ Ok t.rows
rows_ok true kinds rows t e = let is : record { kinds = kinds; rows = rows } ≡ t = cc in ap (λ
    (r : Relation). Ok r.rows) is
rows_ok false kinds rows t e = absurd cc

kinds_ok : (b : Bool) (kinds : List Kind) (rows : RowSet) (t : Relation)
    → cond b (Ok (record { kinds = kinds; rows = rows })) (Err full) ≡ Ok t → kinds ≡ t.kinds
kinds_ok true kinds rows t e = let is : record { kinds = kinds; rows = rows } ≡ t = cc in ap (λ
    (r : Relation). r.kinds) is
kinds_ok false kinds rows t e = absurd cc

-- the table that a load made of the changed rows, as the table after the change
pub loaded_after : (kinds : List Kind) (rows : List (List Value)) (s : RowSet) (removed added : List (List Value))
    (r : Result Relation (Refusal TableFull)) → set.from_list rows ≡ changed_rows s removed added
    → Gives {X = Relation} (λ t. t) r (bounded (set.from_list {R = row_cmp} rows)
    (record { kinds = kinds; rows = set.from_list rows })) → Gives {X = Relation} (λ t. t.rows) r
    (application s removed added)
loaded_after kinds rows s removed added (Ok t) same gives =
    let e : bounded (changed_rows s removed added) (set.from_list {R = row_cmp} rows) ≡ Ok t.rows = (λ i. bounded
    (sym same i) (set.from_list {R = row_cmp} rows)) ∙ rows_ok (nat_le (set.len
    (set.from_list {R = row_cmp} rows)) MOST_ROWS) kinds (set.from_list rows) t gives in
    ap (bounded (changed_rows s removed added)) (sym same) ∙ e
loaded_after kinds rows s removed added (Err Memory) same gives = tt
loaded_after kinds rows s removed added (Err (Fault fault)) same gives =
    let none : bounded (set.from_list {R = row_cmp} rows) (changed_rows s removed added) ≡ Err fault = both_full
    (nat_le (set.len (set.from_list {R = row_cmp} rows)) MOST_ROWS)
    (record { kinds = kinds; rows = set.from_list rows }) (changed_rows s removed added) fault gives in
    (λ i. bounded (sym same i) (changed_rows s removed added)) ∙ none

pub loaded_kinds : (kinds own : List Kind) (rows : List (List Value)) (r : Result Relation (Refusal TableFull))
    → kinds ≡ own → Gives {X = Relation} (λ t. t) r (bounded (set.from_list {R = row_cmp} rows)
    (record { kinds = kinds; rows = set.from_list rows })) → IfOk r (λ t. t.kinds ≡ own)
loaded_kinds kinds own rows (Ok t) same gives = sym (kinds_ok (nat_le (set.len
    (set.from_list {R = row_cmp} rows)) MOST_ROWS) kinds (set.from_list rows) t gives) ∙ same
loaded_kinds kinds own rows (Err fault) same gives = tt

-- the rows that a list in another order takes out are the same
pub without_moved : (s : RowSet) (removed moved : List (List Value)) → IsPermutation removed moved
    → set.without_all s moved ≡ set.without_all s removed
without_moved s removed moved perm i = set.retain s (λ row. not (sym (list_any-IsPermutation
    (eq_by_cmp row_cmp row) removed moved perm) i))

-- the set of the rows that stay and those that are put in
pub rows_after : (s : RowSet) (items kept removed moved added given rows : List (List Value)) (i : ℕ)
    → set.from_list items ≡ s → kept ≡ filter (stays moved) items → IsPermutation removed moved
    → rows ≡ kept ++ take i given → length given ≤ i → given ≡ added → set.from_list rows ≡ changed_rows s removed added
rows_after s items kept removed moved added given rows i view is perm e all same =
    ap (λ xs. set.from_list {R = row_cmp} xs) (e ∙ ap (λ xs. kept ++ xs) (take_all i given all ∙ same)
    ∙ ap (λ xs. xs ++ added) is)
    ∙ from_append (filter (stays moved) items) added
    ∙ ap (λ t. set.insert_all t added) (without_rows items moved ∙ ap (λ t. set.without_all t moved) view
    ∙ without_moved s removed moved perm)
