-- Rows that were found by their first values and pass a test.
use Rattle.std.proofs.Common.{◌≡◌, Bool, true, false, cond, List, [], ◌∷◌, length, refl, sym, ap, ◌∙◌}
use Rattle.std.proofs.Common.{inl, inr}
use Rattle.std.specs.Prelude.{◌&&◌, IsTrue, ◌⊎◌, Result, Ok, Err, IfOk}
use Rattle.std.specs.List.{filter, IsDistinct}
use Rattle.std.specs.Ordering.{eq_by_cmp}
use Rattle.std.proofs.lemmas.Map.Keys.{IsDistinct-from_sorted}
use Rattle.std.proofs.lemmas.Bool.{and_parts}
use denote.Param.Members.{Shared}
use denote.Ref.{Bor}
use Rattle.ent_lists.specs.Sets as set
use Rattle.ent_lists.specs.Laws.{from_list-ascending, len-distinct, from_list-filter, contains-retain}
use Rattle.ent_value.specs.declared.value.Value.{Value}
use Rattle.ent_value.specs.Value.{row_cmp}
use Rattle.ent_value.specs.Order.{rows_total, exact_rows}
use Rattle.ent_rel.specs.Closure.{Computes}
use Rattle.ent_rel.specs.Part.{IsPart}
use Rattle.ent_rel.specs.Relation.{RowSet}
use Rattle.ent_rel.proofs.Keyed.{rows_ascend}

pub filter_both : {X : Type 0} (p q : X → Bool) (xs : List X) → filter q (filter p xs) ≡ filter (λ x. p x && q x) xs
filter_both p q [] = refl
filter_both {X} p q (x ∷ xs) = by (p x) (filter_both p q xs)
  where
    by : (a : Bool) → filter q (filter p xs) ≡ filter (λ y. p y && q y) xs
        → filter q (cond a (x ∷ filter p xs) (filter p xs)) ≡ cond (a && q x) (x ∷ filter (λ y. p y && q y) xs)
        (filter (λ y. p y && q y) xs)
    by true h = ap (λ ys. cond (q x) (x ∷ ys) ys) h
    by false h = h

-- a part of what a filter keeps is a part of the whole
pub part_filter : {X : Type 0} (p : X → Bool) (xs part : List X) → IsPart (filter p xs) part → IsPart xs part
part_filter p [] part h = h
part_filter {X} p (x ∷ xs) part h = by (p x) (part_filter p xs) h
  where
    by : (b : Bool) → ((others : List X) → IsPart (filter p xs) others → IsPart xs others)
        → IsPart (cond b (x ∷ filter p xs) (filter p xs)) part
        → IsPart xs part ⊎ ((others : List X) × (part ≡ x ∷ others) × IsPart xs others)
    by true whole (inl k) = inl (whole part k)
    by true whole (inr (others, e, k)) = inr (others, e, whole others k)
    by false whole k = inl (whole part k)

pub ascending_distinct : (s : RowSet) → IsDistinct (eq_by_cmp row_cmp) (set.ascending s)
ascending_distinct s = IsDistinct-from_sorted row_cmp (set.ascending s) (rows_ascend s)

pub ascending_all : (s : RowSet) → set.from_list {R = row_cmp} (set.ascending s) ≡ s
ascending_all s = from_list-ascending rows_total exact_rows s

pub ascending_len : (s : RowSet) → length (set.ascending s) ≡ set.len s
ascending_len s = sym (len-distinct rows_total exact_rows (set.ascending s) (ascending_distinct s))
    ∙ ap set.len (ascending_all s)

-- what is found of a set is in the set
pub found_there : (s : RowSet) (p : List Value → Bool) (row : List Value)
    → IsTrue (set.contains (set.from_list {R = row_cmp} (filter p (set.ascending s))) row) → IsTrue (set.contains s row)
found_there s p row here =
    (and_parts (set.contains s row) (p row)
    (sym (contains-retain rows_total s p row (λ x e. sym (ap p (exact_rows row x e))))
    ∙ sym (ap (λ t. set.contains t row) (from_list-filter rows_total exact_rows p (set.ascending s)
    ∙ ap (λ t. set.retain t p) (ascending_all s))) ∙ here)).0

pub found_computes : {F : Type 0} (calls : Shared F (Bor (List Value) × Unit {0}) Bool) (closure : F) (s : RowSet)
    (p passes : List Value → Bool) (found : List (List Value))
    → found ≡ filter p (set.ascending s) → Computes calls closure s passes
    → Computes calls closure (set.from_list found) passes
found_computes calls closure s p passes found is computes row answer here says =
    computes row answer (found_there s p row (sym (ap (λ rows. set.contains
    (set.from_list {R = row_cmp} rows) row) is) ∙ here)) says

pub ok_then : {X E : Type 0} (P Q : X → Type 0) (r : Result X E) → ((x : X) → P x → Q x) → IfOk r P → IfOk r Q
ok_then P Q (Ok x) f h = f x h
ok_then P Q (Err e) f h = tt
