-- Parts of lists of rows, and how many rows a change leaves.
use Rattle.std.proofs.Common.{◌≡◌, ◌+◌, ◌≤◌, Bool, true, false, cond, not, List, [], ◌∷◌, ◌++◌, length, refl, sym}
use Rattle.std.proofs.Common.{ap, subst, ◌∙◌, arith, inl, inr}
use Rattle.std.specs.Prelude.{All, ◌||◌}
use Rattle.std.specs.List.{filter, list_any, IsDistinct, AllByRecursion}
use Rattle.std.specs.Ordering.{eq_by_cmp}
use Rattle.std.proofs.lemmas.List.Elements.{All-cons, All-head, All-tail, All-nil}
use Rattle.std.proofs.lemmas.Map.Keys.{IsDistinct-head, IsDistinct-tail}
use Rattle.ent_lists.specs.Sets as set
use Rattle.ent_lists.specs.Laws.{len-distinct, len-insert, IsDistinct-filter, without-list}
use Rattle.ent_lists.specs.Elements.{neither}
use Rattle.ent_value.specs.declared.value.Value.{Value}
use Rattle.ent_value.specs.Value.{row_cmp}
use Rattle.ent_value.specs.Order.{rows_total, exact_rows, rows_equal}
use Rattle.ent_rel.specs.Part.{IsPart}
use Rattle.ent_rel.specs.Relation.{RowSet}
use Rattle.ent_rel.specs.Change.{changed_rows}

pub part_nil : {X : Type 0} (xs : List X) → IsPart xs []
part_nil [] = refl
part_nil (x ∷ xs) = inl (part_nil xs)

-- one more element of the whole, left out or not
pub part_left : {X : Type 0} (xs part : List X) (x : X) → IsPart xs part → IsPart (xs ++ x ∷ []) part
part_left [] part x h = inl h
part_left (y ∷ ys) part x (inl h) = inl (part_left ys part x h)
part_left (y ∷ ys) part x (inr (others, e, h)) = inr (others, e, part_left ys others x h)

pub part_kept : {X : Type 0} (xs part : List X) (x : X) → IsPart xs part → IsPart (xs ++ x ∷ []) (part ++ x ∷ [])
part_kept [] part x h = inr ([], ap (λ ys. ys ++ x ∷ []) h, refl)
part_kept (y ∷ ys) part x (inl h) = inl (part_kept ys part x h)
part_kept (y ∷ ys) part x (inr (others, e, h)) = inr (
  others ++ x ∷ [],
  ap
      (λ zs. zs ++ x ∷ []) e,
  part_kept ys others x h,
)

pub part_all : {X : Type 0} (P : X → Type 0) (xs part : List X) → IsPart xs part → All P xs → All P part
part_all {X} P [] part h all = let Q : List X → Type 0 = λ ys. All P ys in subst Q (sym h) (All-nil P)
part_all P (x ∷ xs) part (inl h) all = part_all P xs part h (All-tail P x xs all)
part_all {X} P (x ∷ xs) part (inr (others, e, h)) all =
    let Q : List X → Type 0 = λ ys. All P ys in
    subst Q (sym e) (All-cons P x others (All-head P x xs all) (part_all P xs others h (All-tail P x xs all)))

part_none : {X : Type 0} (p : X → Bool) (xs part : List X) → IsPart xs part → list_any p xs ≡ false
    → list_any p part ≡ false
part_none p [] part h none = ap (list_any p) h
part_none p (x ∷ xs) part (inl h) none = part_none p xs part h (neither (p x) (list_any p xs) none).1
part_none p (x ∷ xs) part (inr (others, e, h)) none =
    let both = neither (p x) (list_any p xs) none in
    ap (list_any p) e ∙ (λ i. both.0 i || part_none p xs others h both.1 i)

-- not among those taken out
abbrev pub stays : List (List Value) → List Value → Bool
stays removed row = not (list_any (λ y. eq_by_cmp row_cmp y row) removed)

apart_none : (x : List Value) (xs : List (List Value)) → AllByRecursion (λ y. eq_by_cmp row_cmp x y ≡ false) xs
    → list_any (λ y. eq_by_cmp row_cmp y x) xs ≡ false
apart_none x [] h = refl
apart_none x (y ∷ ys) h = (λ i. (rows_equal.symm y x ∙ h.0) i || list_any (λ y. eq_by_cmp row_cmp y x) ys)
    ∙ apart_none x ys h.1

filter_apart : (x : List Value) (others xs : List (List Value))
    → AllByRecursion (λ y. eq_by_cmp row_cmp x y ≡ false) xs → filter (stays (x ∷ others)) xs ≡ filter (stays others) xs
filter_apart x others [] h = refl
filter_apart x others (y ∷ ys) h =
    (λ i. cond (not (h.0 i || list_any (λ z. eq_by_cmp row_cmp z y) others)) (y ∷ filter (stays (x ∷ others)) ys)
    (filter (stays (x ∷ others)) ys))
    ∙ ap (λ zs. cond (stays others y) (y ∷ zs) zs) (filter_apart x others ys h.1)

-- those that stay and those taken out are all
counted_part : (xs part : List (List Value)) → IsDistinct (eq_by_cmp row_cmp) xs → IsPart xs part
    → length (filter (stays part) xs) + length part ≡ length xs
counted_part [] part d h = omega (arith, ap length h)
counted_part (x ∷ xs) part d (inl h) =
    let none : list_any (λ y. eq_by_cmp row_cmp y x) part ≡ false = part_none (λ y. eq_by_cmp row_cmp y x) xs part h
    (apart_none x xs (IsDistinct-head _ x xs d)) in
    let rest = counted_part xs part (IsDistinct-tail _ x xs d) h in
    let one : length (filter (stays part) (x ∷ xs)) ≡ length (x ∷ filter (stays part) xs) = ap (λ b. length (cond
    (not b) (x ∷ filter (stays part) xs) (filter (stays part) xs))) none in
    omega arith
counted_part (x ∷ xs) part d (inr (others, e, h)) =
    let rest = counted_part xs others (IsDistinct-tail _ x xs d) h in
    let gone : filter (stays (x ∷ others)) (x ∷ xs) ≡ filter (stays (x ∷ others)) xs = ap (λ b. cond (not
    (b || list_any (λ y. eq_by_cmp row_cmp y x) others)) (x ∷ filter (stays (x ∷ others)) xs) (filter (stays
    (x ∷ others)) xs)) (rows_equal.refl x) in
    let left : length (filter (stays part) (x ∷ xs)) ≡ length (filter (stays others) xs) = ap (λ p. length (filter
    (stays p) (x ∷ xs))) e ∙ ap length (gone ∙ filter_apart x others xs (IsDistinct-head _ x xs d)) in
    omega (arith, ap length e)

-- how many rows are left where a part of them is taken out
pub len-without : (xs part : List (List Value)) → IsDistinct (eq_by_cmp row_cmp) xs → IsPart xs part
    → set.len (set.without_all (set.from_list {R = row_cmp} xs) part) + length part ≡ length xs
len-without xs part d h =
    let left : set.len (set.without_all (set.from_list {R = row_cmp} xs) part) ≡ length (filter
    (stays part) xs) = ap set.len (sym (without-list rows_total exact_rows xs part))
    ∙ len-distinct rows_total exact_rows (filter (stays part) xs) (IsDistinct-filter _ (stays part) xs d) in
    omega (arith, counted_part xs part d h)

pub len-insert_all : (s : RowSet) (added : List (List Value))
    → set.len (set.insert_all s added) ≤ set.len s + length added
len-insert_all s [] = omega arith
len-insert_all s (row ∷ added) =
    let rest = len-insert_all (set.insert s row) added in
    let one : set.len (set.insert s row) ≤ set.len s + 1 = elim (set.contains s row) as (λ b. set.len
    (set.insert s row) ≡ cond b (set.len s) (set.len s + 1)
    → set.len (set.insert s row) ≤ set.len s + 1) [ true ↦ λ e. omega arith | false ↦ λ e. omega arith ]
    (len-insert rows_total exact_rows s row) in
    omega arith

-- a change that puts no more rows in than it takes out leaves no more rows
pub len-changed : (xs part added : List (List Value)) → IsDistinct (eq_by_cmp row_cmp) xs → IsPart xs part
    → length added ≤ length part → set.len (changed_rows (set.from_list xs) part added) ≤ length xs
len-changed xs part added d h le = omega (
  arith,
  len-without xs part d h,
  len-insert_all (set.without_all
      (set.from_list {R = row_cmp} xs) part) added,
)
