-- Values that are left of a walk.
use Rattle.std.proofs.Common.{◌≡◌, ◌⊎◌, ℕ, ◌+◌, ◌<◌, List, [], ◌∷◌, ◌++◌, length}
use Rattle.std.proofs.Common.{refl, sym, ap, subst, ◌∙◌, inl, inr, arith}
use Rattle.std.proofs.Common.{length-append, zero, suc, get_or, take, drop, ◌-◌}
use Rattle.std.proofs.lemmas.List.{take_all}
use Rattle.std.specs.Prelude.{slice_index_or}
use Rattle.std.specs.List.{AllByRecursion}
use Rattle.ent_value.specs.declared.value.Value.{Value}
use Rattle.ent_semantics.specs.Term.{no_value}
use Rattle.ent_join.specs.Cursor.{column_values, IsAmong, IsAscending, IsNext, PassesOver}

-- what is behind values that are passed over
pub ascending_right : (xs ys : List Value) → IsAscending (xs ++ ys) → IsAscending ys
ascending_right [] ys h = h
ascending_right (x ∷ xs) ys h = ascending_right xs ys h.1

pub all_among : (P : Value → Type 0) (xs : List Value) (y : Value) → AllByRecursion P xs → IsAmong y xs → P y
all_among P [] y h a = absurd a
all_among P (x ∷ xs) y h (inl e) = subst P e h.0
all_among P (x ∷ xs) y h (inr a) = all_among P xs y h.1 a

pub among_split : (xs ys : List Value) (y : Value) → IsAmong y (xs ++ ys) → IsAmong y xs ⊎ IsAmong y ys
among_split [] ys y a = inr a
among_split (x ∷ xs) ys y (inl e) = inl (inl e)
among_split (x ∷ xs) ys y (inr a) = elim (among_split xs ys y a) [ inl b ↦ inl (inr b) | inr b ↦ inr b ]

-- a walk becomes shorter
pub next_is_shorter : (before after : List Value) (value : Value) → IsNext before after value
    → length after < length before
next_is_shorter before after value next =
    let e : length before ≡ 1 + (length next.same + length after) =
    ap length next.are ∙ omega (arith, length-append next.same after) in
    omega arith

column_values-append : (column : ℕ) (xs ys : List (List Value))
    → column_values column (xs ++ ys) ≡ column_values column xs ++ column_values column ys
column_values-append column [] ys = refl
column_values-append column (x ∷ xs) ys =
    ap (λ vs. slice_index_or x column no_value ∷ vs) (column_values-append column xs ys)

same_in_column : (column : ℕ) (value : Value) (rows : List (List Value))
    → AllByRecursion (λ row. slice_index_or row column no_value ≡ value) rows
    → AllByRecursion (λ other. other ≡ value) (column_values column rows)
same_in_column column value [] h = tt
same_in_column column value (row ∷ rows) h = (h.0, same_in_column column value rows h.1)

-- what a walk gives where rows are passed over
pub next_in_column : (column : ℕ) (first : List Value) (others left : List (List Value)) (value : Value)
    → slice_index_or first column no_value ≡ value
    → PassesOver column value others left
    → IsNext (column_values column (first ∷ others)) (column_values column left) value
next_in_column column first others left value e over = record {
  same = column_values column over.passed;
  all_same = same_in_column column value over.passed over.all_same;
  are = ap (λ v. v ∷ column_values column others) e
      ∙ ap (λ vs. value ∷ vs) (ap (column_values column) over.are ∙ column_values-append column over.passed left);
}

-- one row more is passed over
pub passes_over_more : (column : ℕ) (value : Value) (before : List (List Value)) (row : List Value)
    (after : List (List Value))
    → slice_index_or row column no_value ≡ value
    → PassesOver column value before (row ∷ after) → PassesOver column value before after
passes_over_more column value before row after e over = record {
  passed = over.passed ++ row ∷ [];
  all_same = pushed over.passed over.all_same;
  are = over.are ∙ moved over.passed;
}
  where
    pushed : (rows : List (List Value)) → AllByRecursion (λ row. slice_index_or row column no_value ≡ value) rows
        → AllByRecursion (λ row. slice_index_or row column no_value ≡ value) (rows ++ row ∷ [])
    pushed [] h = (e, tt)
    pushed (r ∷ rows) h = (h.0, pushed rows h.1)

    moved : (rows : List (List Value)) → rows ++ row ∷ after ≡ (rows ++ row ∷ []) ++ after
    moved [] = refl
    moved (r ∷ rows) = ap (λ rs. r ∷ rs) (moved rows)

-- a list of one element or more is its first and those behind it
pub first_and_others : {X : Type 0} (xs : List X) (x : X) → 0 < length xs → x ≡ get_or xs 0 x
    → xs ≡ x ∷ take (length xs - 1) (drop 1 xs)
first_and_others [] x h is = absurd (omega arith)
first_and_others (y ∷ ys) x h is =
    ap (λ z. z ∷ ys) (sym is) ∙ ap (λ zs. x ∷ zs) (sym (take_all (length (y ∷ ys) - 1) ys (omega arith)))

-- the value in a column that is there, whatever stands for one that isn't
pub column_is : (row : List Value) (column : ℕ) (value : Value) → column < length row → value ≡ get_or row column value
    → slice_index_or row column no_value ≡ value
column_is [] column value h is = absurd (omega arith)
column_is (v ∷ row) zero value h is = sym is
column_is (v ∷ row) (suc column) value h is = column_is row column value (omega arith) is

pub all_first : {X : Type 0} (P : X → Type 0) (xs rest : List X) (x : X) → xs ≡ x ∷ rest → AllByRecursion P xs → P x
all_first P xs rest x e h =
    let all : AllByRecursion P (x ∷ rest) = subst (AllByRecursion P) e h in
    all.0

pub all_others : {X : Type 0} (P : X → Type 0) (xs rest : List X) (x : X) → xs ≡ x ∷ rest → AllByRecursion P xs
    → AllByRecursion P rest
all_others P xs rest x e h =
    let all : AllByRecursion P (x ∷ rest) = subst (AllByRecursion P) e h in
    all.1
