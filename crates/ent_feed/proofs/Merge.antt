-- Two ascending lists of rows, and what stands in one of them alone.
use Rattle.std.proofs.Common.{◌≡◌, ◌<◌, Bool, false, cond, not, List, [], ◌∷◌, ◌++◌, take, drop}
use Rattle.std.proofs.Common.{length, refl, sym, subst, ap, ◌∙◌, arith, append_assoc}
use Rattle.std.specs.Prelude.{Option, Some, None, MatchOption, ◌||◌}
use Rattle.std.specs.List.{AllByRecursion, list_any}
use Rattle.std.specs.List.Sorted.{IsStrictlySortedBy}
use Rattle.std.specs.Ordering.{eq_by_cmp, ordering_reverse, is_eq}
use Rattle.std.specs.declared.cmp.Ordering.{Ordering}
use Rattle.std.specs.declared.cmp.Ordering.TheVariants.{Less, Equal, Greater}
use Rattle.ent_lists.specs.Elements.{of_all, filter_same}
use Rattle.ent_value.specs.Value.{row_cmp}
use Rattle.ent_value.specs.Order.{rows_total, exact_rows, rows_equal}
use Rattle.ent_value.specs.declared.value.Value.{Value}
use Rattle.ent_feed.specs.Walk.{next_step, rows_beside, step_by}
use Rattle.ent_feed.specs.declared.difference.Step.TheVariants.{Removes, Adds, Keeps}

abbrev Row : Type 0
Row = List Value

abbrev Rows : Type 0
Rows = List Row

abbrev pub has : Rows → Row → Bool
has rows row = list_any (eq_by_cmp row_cmp row) rows

abbrev pub Ascends : Rows → Type 0
Ascends = IsStrictlySortedBy row_cmp

-- a row is below each of these
abbrev IsBelow : Row → Rows → Type 0
IsBelow row = AllByRecursion (λ other. row_cmp row other ≡ Less)

head_below : (row : Row) (rows : Rows) → Ascends (row ∷ rows) → IsBelow row rows
unfolding IsStrictlySortedBy
head_below row rows sorted = sorted.0

pub tail_ascends : (rows : Rows) → Ascends rows → Ascends (drop 1 rows)
unfolding IsStrictlySortedBy
tail_ascends [] sorted = sorted
tail_ascends (row ∷ rows) sorted = sorted.1

less_differs : (a b : Row) → row_cmp a b ≡ Less → eq_by_cmp row_cmp a b ≡ false
less_differs a b less = ap is_eq less

greater_differs : (a b : Row) → row_cmp a b ≡ Less → eq_by_cmp row_cmp b a ≡ false
greater_differs a b less = ap is_eq (rows_total.antisymm b a ∙ ap ordering_reverse less)

below_all : (row first : Row) (rows : Rows) → row_cmp row first ≡ Less → IsBelow first rows → IsBelow row rows
below_all row first [] less below = tt
below_all row first (next ∷ rows) less below = (
  rows_total.trans row first next less below.0,
  below_all row first rows less below.1,
)

-- a row below those of a list isn't in it
absent : (row : Row) (rows : Rows) → IsBelow row rows → has rows row ≡ false
absent row [] below = refl
absent row (first ∷ rows) below =
    ap (λ b. b || has rows row) (less_differs row first below.0) ∙ absent row rows below.1

-- the first row of one list is below those of another, so it stands in the first list alone
alone : (row : Row) (rows others : Rows) → IsBelow row others → rows_beside (row ∷ rows) others
    ≡ row ∷ rows_beside rows others
alone row rows others below =
    ap (λ b. cond (not b) (row ∷ rows_beside rows others) (rows_beside rows others)) (absent row others below)

-- and it takes nothing from the other list
takes_nothing : (row : Row) (rows others : Rows) → IsBelow row others → rows_beside others (row ∷ rows)
    ≡ rows_beside others rows
takes_nothing row rows others below =
    filter_same (λ other. not (has (row ∷ rows) other)) (λ other. not (has rows other)) others
    (λ other at. ap (λ b. not (b || has rows other))
    (greater_differs row other (of_all (λ z. row_cmp row z ≡ Less) others other below at)))

-- a row that stands first in both goes from both
both : (row : Row) (rows others : Rows) → IsBelow row rows → rows_beside (row ∷ rows) (row ∷ others)
    ≡ rows_beside rows others
both row rows others below =
    ap (λ b. cond (not (b || has others row)) (row ∷ rows_beside rows (row ∷ others)) (rows_beside rows (row ∷ others)))
    (rows_equal.refl row)
    ∙ takes_nothing row others rows below

-- ---- steps

is_less : (o : Ordering) → step_by o ≡ Removes → o ≡ Less
is_less Less e = refl
is_less Equal e = absurd cc
is_less Greater e = absurd cc

is_equal : (o : Ordering) → step_by o ≡ Keeps → o ≡ Equal
is_equal Less e = absurd cc
is_equal Equal e = refl
is_equal Greater e = absurd cc

is_greater : (o : Ordering) → step_by o ≡ Adds → o ≡ Greater
is_greater Less e = absurd cc
is_greater Equal e = absurd cc
is_greater Greater e = refl

-- the first row of one list stands in it alone
pub record FirstAlone (rows others : Rows) : Type 0 where
  pub here : rows_beside rows others ≡ take 1 rows ++ rows_beside (drop 1 rows) others
  pub there : rows_beside others rows ≡ rows_beside others (drop 1 rows)
  pub shorter : length (drop 1 rows) < length rows

first_alone : (row : Row) (rows others : Rows) → IsBelow row others → FirstAlone (row ∷ rows) others
first_alone row rows others below =
    record {
      here = alone row rows others below;
      there = takes_nothing row rows others below;
      shorter = omega arith;
    }

pub removes : (olds news : Rows) → Ascends news → next_step olds news ≡ Some Removes → FirstAlone olds news
removes [] [] sorted is = absurd cc
removes [] (new ∷ news) sorted is = absurd cc
removes (old ∷ olds) [] sorted is = first_alone old olds [] tt
removes (old ∷ olds) (new ∷ news) sorted is =
    let step : step_by (row_cmp old new) ≡ Removes = cc in
    let less = is_less (row_cmp old new) step in
    first_alone old olds (new ∷ news) (less, below_all old new news less (head_below new news sorted))

pub adds : (olds news : Rows) → Ascends olds → next_step olds news ≡ Some Adds → FirstAlone news olds
adds [] [] sorted is = absurd cc
adds [] (new ∷ news) sorted is = first_alone new news [] tt
adds (old ∷ olds) [] sorted is = absurd cc
adds (old ∷ olds) (new ∷ news) sorted is =
    let step : step_by (row_cmp old new) ≡ Adds = cc in
    let less : row_cmp new old ≡ Less =
    rows_total.antisymm new old ∙ ap ordering_reverse (is_greater (row_cmp old new) step) in
    first_alone new news (old ∷ olds) (less, below_all new old olds less (head_below old olds sorted))

-- the first rows of both are one
pub record FirstInBoth (olds news : Rows) : Type 0 where
  pub gone : rows_beside olds news ≡ rows_beside (drop 1 olds) (drop 1 news)
  pub come : rows_beside news olds ≡ rows_beside (drop 1 news) (drop 1 olds)
  pub shorter : length (drop 1 olds) < length olds
  pub shorter_too : length (drop 1 news) < length news

in_both : (old new : Row) (olds news : Rows) → old ≡ new → IsBelow old olds → IsBelow new news
    → FirstInBoth (old ∷ olds) (new ∷ news)
in_both old new olds news same below below_too =
    record {
      gone = ap (λ row. rows_beside (old ∷ olds) (row ∷ news)) (sym same) ∙ both old olds news below;
      come = ap (λ row. rows_beside (new ∷ news) (row ∷ olds)) same ∙ both new news olds below_too;
      shorter = omega arith;
      shorter_too = omega arith;
    }

pub keeps : (olds news : Rows) → Ascends olds → Ascends news → next_step olds news ≡ Some Keeps → FirstInBoth olds news
keeps [] [] sorted sorted_too is = absurd cc
keeps [] (new ∷ news) sorted sorted_too is = absurd cc
keeps (old ∷ olds) [] sorted sorted_too is = absurd cc
keeps (old ∷ olds) (new ∷ news) sorted sorted_too is =
    let step : step_by (row_cmp old new) ≡ Keeps = cc in
    in_both old new olds news (exact_rows old new (is_equal (row_cmp old new) step)) (head_below old olds sorted)
    (head_below new news sorted_too)

-- nothing is left of either
pub none_left : (olds news : Rows) → next_step olds news ≡ None → (olds ≡ []) × (news ≡ [])
none_left [] [] is = (refl, refl)
none_left [] (new ∷ news) is = absurd cc
none_left (old ∷ olds) [] is = absurd cc
none_left (old ∷ olds) (new ∷ news) is = absurd cc

-- ---- what was noted so far

-- the first row of a list, which stands in it alone, was noted behind others
pub noted_alone : (noted more rows others all : Rows) → FirstAlone rows others → more ≡ noted ++ take 1 rows
    → noted ++ rows_beside rows others ≡ all → more ++ rows_beside (drop 1 rows) others ≡ all
noted_alone noted more rows others all first pushed before =
    ap (λ front. front ++ rows_beside (drop 1 rows) others) pushed
    ∙ append_assoc noted (take 1 rows) (rows_beside (drop 1 rows) others)
    ∙ ap (λ rest. noted ++ rest) (sym first.here) ∙ before

-- the first row was taken, if there was one
pub taken : (first : Option Row) (old new : Rows)
    → MatchOption first ((old ≡ []) × (new ≡ [])) (λ row. old ≡ row ∷ new) → new ≡ drop 1 old
taken None old new is = is.1 ∙ ap (drop 1) (sym is.0)
taken (Some row) old new is = ap (drop 1) (sym is)

-- ---- the walk goes on

module _ (noted other_noted olds news all other_all : Rows) (sorted : Ascends olds) (sorted_too : Ascends news)
    (before : noted ++ rows_beside olds news ≡ all) (other_before : other_noted ++ rows_beside news olds
    ≡ other_all) where
  pub goes_on_alone : (more ahead : Rows) → FirstAlone olds news → more ≡ noted ++ take 1 olds → ahead ≡ drop 1 olds
      → (more ++ rows_beside ahead news ≡ all) × (other_noted ++ rows_beside news ahead ≡ other_all) × Ascends ahead
  goes_on_alone more ahead first pushed passed = (
    ap (λ rows. more ++ rows_beside rows news) passed
        ∙ noted_alone noted more olds news all first pushed before,
    ap (λ rows. other_noted ++ rows_beside news rows) passed
        ∙ ap (λ rows. other_noted ++ rows) (sym first.there) ∙ other_before,
    subst Ascends (sym passed) (tail_ascends olds sorted),
  )

  pub goes_on_both : (ahead other_ahead : Rows) → FirstInBoth olds news → ahead ≡ drop 1 olds
      → other_ahead ≡ drop 1 news
      → (noted ++ rows_beside ahead other_ahead ≡ all) × (other_noted ++ rows_beside other_ahead ahead ≡ other_all)
      × Ascends ahead × Ascends other_ahead
  goes_on_both ahead other_ahead first passed passed_too = (
    (λ i. noted ++ rows_beside (passed i) (passed_too i)) ∙ ap (λ rows. noted ++ rows) (sym first.gone) ∙ before,
    (λ i. other_noted ++ rows_beside (passed_too i) (passed i)) ∙ ap (λ rows. other_noted ++ rows) (sym first.come)
        ∙ other_before,
    subst Ascends (sym passed) (tail_ascends olds sorted),
    subst Ascends (sym passed_too) (tail_ascends news sorted_too),
  )
