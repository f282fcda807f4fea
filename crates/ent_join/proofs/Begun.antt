-- Rows that begin with values that their classes have.
use Rattle.std.proofs.Common.{◌≡◌, ◌≢◌, ℕ, zero, suc, ◌<◌, Bool, true, false, cond, List, [], ◌∷◌, ◌++◌, length}
use Rattle.std.proofs.Common.{Option, Some, None, refl, sym, ap, subst, ◌∙◌, arith}
use Rattle.std.specs.Prelude.{◌==◌, nat_lt, slice_get, slice_index_or}
use Rattle.std.specs.List.{AllByRecursion}
use Rattle.std.specs.List.Sorted.{IsStrictlySortedBy}
use Rattle.std.specs.Option.{option_map}
use Rattle.std.specs.Ordering.{nat_cmp, ordering_then}
use Rattle.std.specs.declared.cmp.Ordering.{Ordering}
use Rattle.std.specs.declared.cmp.Ordering.TheVariants.{Less, Equal, Greater}
use Rattle.std.proofs.lemmas.Bool.{eqb-true}
use Rattle.ent_lists.specs.Elements.{got_on}
use Rattle.ent_lists.proofs.Orders.{equal_then}
use borrow.Author.Tests.{ltb-true}
use Rattle.ent_value.specs.Value.{value_cmp, row_cmp}
use Rattle.ent_value.specs.Order.{exact_values}
use Rattle.ent_value.specs.declared.value.Value.{Value}
use Rattle.ent_semantics.specs.Term.{no_value}
use Rattle.ent_join.specs.Index.{known_cmp, begun_cmp, column_of}
use Rattle.ent_join.proofs.Steps.{value_cmp-self}

-- ---- what is known of a beginning stays known

pub get_next : {X : Type 0} (xs ys : List X) (x : X) → slice_get (xs ++ x ∷ ys) (length xs) ≡ Some x
get_next [] ys x = refl
get_next (y ∷ xs) ys x = get_next xs ys x

pub get_there : {X : Type 0} (xs : List X) (i : ℕ) → i < length xs → (x : X) × (slice_get xs i ≡ Some x)
get_there [] i h = absurd (omega arith)
get_there (x ∷ xs) zero h = (x, refl)
get_there (x ∷ xs) (suc i) h = get_there xs i (omega arith)

-- a row that begins as a list does begins as what that list begins with
pub kept_cmp : (beginning rest : List Value) (classes : List ℕ) (row : List Value)
    → begun_cmp (beginning ++ rest) classes row ≡ Equal → begun_cmp beginning classes row ≡ Equal
kept_cmp beginning rest [] row h = refl
kept_cmp beginning rest (class ∷ classes) [] h = refl
kept_cmp beginning rest (class ∷ classes) (value ∷ row) h =
    by (λ k. kept_cmp beginning rest classes row k) (slice_get beginning class) refl
  where
    by : (begun_cmp (beginning ++ rest) classes row ≡ Equal → begun_cmp beginning classes row ≡ Equal)
        → (known : Option Value) → slice_get beginning class ≡ known
        → known_cmp known value (begun_cmp beginning classes row) ≡ Equal
    by more None e = refl
    by more (Some known) e =
        let there : known_cmp (Some known) value (begun_cmp (beginning ++ rest) classes row) ≡ Equal =
        subst (λ k. known_cmp k value (begun_cmp (beginning ++ rest) classes row) ≡ Equal)
        (got_on beginning rest class known e) h in
        let both = equal_then (value_cmp value known) (begun_cmp (beginning ++ rest) classes row) there in
        ap (λ o. ordering_then o (begun_cmp beginning classes row)) both.0
        ∙ more both.1

-- ---- the column of the next class

pub some_suc : (o : Option ℕ) (j : ℕ) → option_map suc o ≡ Some j → (k : ℕ) × (o ≡ Some k) × (j ≡ suc k)
some_suc None j h = cc
some_suc (Some k) j h = (k, refl, let f : suc k ≡ j = cc in sym f)

pub less_is : (x y : ℕ) → nat_cmp x y ≡ Less → x < y
less_is x y h = by (nat_lt x y) refl h
  where
    by_equal : (b : Bool) → cond b Equal Greater ≡ Less → x < y
    by_equal true e = cc
    by_equal false e = cc

    by : (b : Bool) → nat_lt x y ≡ b → cond b Less (cond (x == y) Equal Greater) ≡ Less → x < y
    by true is e = ltb-true x y is
    by false is e = by_equal (x == y) e

-- what holds of all classes holds of one that has a column
pub all_columns : (P : ℕ → Type 0) (class : ℕ) (classes : List ℕ) (column : ℕ) → AllByRecursion P classes
    → column_of class classes ≡ Some column → P class
all_columns P class [] column all h = cc
all_columns P class (other ∷ classes) column all h =
    by (λ k e. all_columns P class classes k all.1 e) (other == class) refl h
  where
    by : ((k : ℕ) → column_of class classes ≡ Some k → P class) → (b : Bool) → (other == class) ≡ b
        → cond b (Some 0) (option_map suc (column_of class classes)) ≡ Some column → P class
    by more true is e = subst P (eqb-true other class is) all.0
    by more false is e =
        let k = some_suc (column_of class classes) column e in
        more k.0 k.1

-- classes before the next one are those of a beginning
pub before_next : (beginning : List Value) (class : ℕ) (classes : List ℕ) (column : ℕ)
    → IsStrictlySortedBy nat_cmp (class ∷ classes)
    → column_of (length beginning) classes ≡ Some column
    → (known : Value) × (slice_get beginning class ≡ Some known)
unfolding IsStrictlySortedBy
before_next beginning class classes column sorted h =
    get_there beginning class
    (less_is class (length beginning)
    (all_columns (λ other. nat_cmp class other ≡ Less) (length beginning) classes column sorted.0 h))

sorted_others : (class : ℕ) (classes : List ℕ) → IsStrictlySortedBy nat_cmp (class ∷ classes)
    → IsStrictlySortedBy nat_cmp classes
unfolding IsStrictlySortedBy
sorted_others class classes h = h.1

-- the next value of a row that begins as a list does is that of the list
pub next_is : (beginning rest : List Value) (next : Value) (classes : List ℕ) (row : List Value) (column : ℕ)
    → IsStrictlySortedBy nat_cmp classes
    → column_of (length beginning) classes ≡ Some column
    → length row ≡ length classes
    → begun_cmp (beginning ++ next ∷ rest) classes row ≡ Equal
    → slice_index_or row column no_value ≡ next
next_is beginning rest next [] row column sorted h wide begun = cc
next_is beginning rest next (class ∷ classes) [] column sorted h wide begun = absurd (omega arith)
next_is beginning rest next (class ∷ classes) (value ∷ row) column sorted h wide begun =
    by (λ k is more.
    next_is beginning rest next classes row k (sorted_others class classes sorted) is (omega arith) more)
    (class == length beginning) refl h
  where
    begun_by : (known : Value) → slice_get (beginning ++ next ∷ rest) class ≡ Some known
        → (value_cmp value known ≡ Equal) × (begun_cmp (beginning ++ next ∷ rest) classes row ≡ Equal)
    begun_by known e =
        equal_then (value_cmp value known) (begun_cmp (beginning ++ next ∷ rest) classes row)
        (subst (λ k. known_cmp k value (begun_cmp (beginning ++ next ∷ rest) classes row) ≡ Equal) e begun)

    by : ((k : ℕ) → column_of (length beginning) classes ≡ Some k
        → begun_cmp (beginning ++ next ∷ rest) classes row ≡ Equal → slice_index_or row k no_value ≡ next)
        → (b : Bool) → (class == length beginning) ≡ b
        → cond b (Some 0) (option_map suc (column_of (length beginning) classes)) ≡ Some column
        → slice_index_or (value ∷ row) column no_value ≡ next
    by others true is e =
        let first : column ≡ 0 = cc in
        let here : slice_get (beginning ++ next ∷ rest) class ≡ Some next =
        ap (slice_get (beginning ++ next ∷ rest)) (eqb-true class (length beginning) is)
        ∙ get_next beginning rest next in
        ap (λ k. slice_index_or (value ∷ row) k no_value) first ∙ exact_values value next (begun_by next here).0
    by others false is e =
        let k = some_suc (column_of (length beginning) classes) column e in
        let known = before_next beginning class classes k.0 sorted k.1 in
        let more = (begun_by known.0 (got_on beginning (next ∷ rest) class known.0 known.1)).1 in
        ap (λ j. slice_index_or (value ∷ row) j no_value) k.2
        ∙ others k.0 k.1 more

not_greater : (o p : Ordering) → ordering_then o p ≡ Less → o ≢ Greater
not_greater Less p h = λ f. cc
not_greater Equal p h = λ f. cc
not_greater Greater p h = λ f. cc

-- of two rows in order that begin with the same values, the next values are in order
pub next_in_order : (beginning : List Value) (classes : List ℕ) (row other : List Value) (column : ℕ)
    → IsStrictlySortedBy nat_cmp classes
    → column_of (length beginning) classes ≡ Some column
    → length row ≡ length classes → length other ≡ length classes
    → begun_cmp beginning classes row ≡ Equal → begun_cmp beginning classes other ≡ Equal
    → row_cmp row other ≡ Less
    → value_cmp (slice_index_or row column no_value) (slice_index_or other column no_value) ≢ Greater
next_in_order beginning [] row other column sorted h wide wide' begun begun' less = cc
next_in_order beginning (class ∷ classes) [] other column sorted h wide wide' begun begun' less =
    absurd (omega arith)
next_in_order beginning (class ∷ classes) (value ∷ row) [] column sorted h wide wide' begun begun' less =
    absurd (omega arith)
next_in_order beginning (class ∷ classes) (value ∷ row) (second ∷ other) column sorted h wide wide' begun begun' less =
    by (λ k is e e' f. next_in_order beginning classes row other k (sorted_others class classes sorted) is (omega arith)
    (omega arith) e e' f) (class == length beginning) refl h
  where
    split : (known v : Value) (vs : List Value) → slice_get beginning class ≡ Some known
        → begun_cmp beginning (class ∷ classes) (v ∷ vs) ≡ Equal
        → (value_cmp v known ≡ Equal) × (begun_cmp beginning classes vs ≡ Equal)
    split known v vs e is =
        equal_then (value_cmp v known) (begun_cmp beginning classes vs)
        (subst (λ k. known_cmp k v (begun_cmp beginning classes vs) ≡ Equal) e is)

    by : ((k : ℕ) → column_of (length beginning) classes ≡ Some k
        → begun_cmp beginning classes row ≡ Equal → begun_cmp beginning classes other ≡ Equal
        → row_cmp row other ≡ Less
        → value_cmp (slice_index_or row k no_value) (slice_index_or other k no_value) ≢ Greater)
        → (b : Bool) → (class == length beginning) ≡ b
        → cond b (Some 0) (option_map suc (column_of (length beginning) classes)) ≡ Some column
        → value_cmp (slice_index_or (value ∷ row) column no_value) (slice_index_or (second ∷ other) column no_value)
        ≢ Greater
    by others true is e =
        let first : 0 ≡ column = cc in
        subst (λ k. value_cmp (slice_index_or (value ∷ row) k no_value)
        (slice_index_or (second ∷ other) k no_value) ≢ Greater) first
        (not_greater (value_cmp value second) (row_cmp row other) less)
    by others false is e =
        let k = some_suc (column_of (length beginning) classes) column e in
        let known = before_next beginning class classes k.0 sorted k.1 in
        let left = split known.0 value row known.1 begun in
        let right = split known.0 second other known.1 begun' in
        let same : value ≡ second = exact_values value known.0 left.0 ∙ sym (exact_values second known.0 right.0) in
        let tie : value_cmp value second ≡ Equal = ap (λ v. value_cmp v second) same ∙ value_cmp-self second in
        let less' : row_cmp row other ≡ Less = ap (λ o. ordering_then o (row_cmp row other)) (sym tie) ∙ less in
        subst (λ j. value_cmp (slice_index_or (value ∷ row) j no_value)
        (slice_index_or (second ∷ other) j no_value) ≢ Greater) (sym k.2)
        (others k.0 k.1 left.1 right.1 less')
