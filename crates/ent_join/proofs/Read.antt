-- Which places of a list an index, a test and a kind read.
use Rattle.std.proofs.Common.{◌≡◌, ℕ, zero, suc, ◌+◌, ◌<◌, ◌≤◌, Bool, true, false, cond, List, [], ◌∷◌, ◌++◌}
use Rattle.std.proofs.Common.{Option, Some, None, length, length-append, refl, sym, ap, ◌∙◌, arith, inl, inr}
use Rattle.std.specs.Prelude.{◌&&◌, ◌==◌, slice_get}
use Rattle.std.specs.List.{AllByRecursion, filter, list_all, list_any}
use Rattle.std.specs.Option.{option_map}
use Rattle.std.specs.Ordering.{is_eq}
use Rattle.std.proofs.lemmas.Option.{slice_get_past}
use Rattle.std.proofs.lemmas.Bool.{eq-eqb, cases_lt}
use Rattle.ent_lists.specs.Elements.{and_both}
use Rattle.ent_value.specs.Kinds.{same_kind}
use Rattle.ent_tree.specs.declared.operand.Test.{Test}
use Rattle.ent_value.specs.Value.{kind_of}
use Rattle.ent_value.specs.declared.value.Kind.{Kind}
use Rattle.ent_value.specs.declared.value.Value.{Value}
use Rattle.ent_ordinary.specs.Early.{may_compare}
use Rattle.ent_match.specs.Links.{IsMarked}
use Rattle.ent_plan.specs.declared.slot.Slot.{Slot}
use Rattle.ent_plan.specs.declared.slot.Slot.TheVariants.{Fixed, Class}
use Rattle.ent_join.specs.Cursor.{column_values}
use Rattle.ent_join.specs.Index.{Indexed, begun_cmp, candidates_in, candidates_or, column_of, goes_on}
use Rattle.ent_join.specs.Index.{known_cmp, rows_after}
use Rattle.ent_join.specs.Keyed.{is_class}
use Rattle.ent_join.specs.Frame.{are_of_kinds, fits, may_hold, slot_there}
use Rattle.ent_join.specs.Reason.{Agrees, IsBegun, IsFollowedFor, IsRefusedFor}
use Rattle.ent_join.specs.Slots.{IsSlotMarked}
use Rattle.ent_join.proofs.Steps.{get_before, get_seam}

nothing : (b : Bool) → (b && false) ≡ false
nothing true = refl
nothing false = refl

-- ---- what lists have in common

-- lists of one length have the same value at a place that is marked where they have it
agreed : (marks : List Bool) (values others : List Value) (place : ℕ)
    → length others ≡ length values → Agrees marks values others
    → (place < length values → IsMarked marks place)
    → slice_get others place ≡ slice_get values place
agreed marks values others place l agree marked =
    elim (cases_lt place (length values)) [
      | inl less ↦ agree place less (marked less)
      | inr past ↦ slice_get_past others place (omega arith) ∙ sym (slice_get_past values place past)
    ]

all_agreed : (marks : List Bool) (values others : List Value) (places : List ℕ)
    → length values ≤ length marks
    → length others ≡ length values → Agrees marks values others
    → AllByRecursion (λ place. place < length marks → IsMarked marks place) places
    → AllByRecursion (λ place. slice_get others place ≡ slice_get values place) places
all_agreed marks values others [] room l agree marked = tt
all_agreed marks values others (place ∷ places) room l agree marked = (
  agreed marks values others place l agree (λ less. marked.0 (omega arith)),
  all_agreed marks values others places room l agree marked.1,
)

-- a place of a list with one value more is its last or one of those before
unread : (front : List Value) (last : Value) (place : ℕ) → (place ≡ length front → ⊥)
    → slice_get (front ++ last ∷ []) place ≡ slice_get front place
unread front last place other =
    elim (cases_lt place (length front)) [
      | inl less ↦ get_before front (last ∷ []) place less
      | inr past ↦ past_both (after past)
    ]
  where
    after : length front ≤ place → length front < place
    after past = elim (cases_lt (length front) place) [
      | inl less ↦ less
      | inr back ↦ absurd (other (omega arith))
    ]

    past_both : length front < place → slice_get (front ++ last ∷ []) place ≡ slice_get front place
    past_both less =
        slice_get_past (front ++ last ∷ []) place (simp length-append (omega arith))
        ∙ sym (slice_get_past front place (omega arith))

-- a list is what comes before its last value, and that
pub front_last : (values : List Value) (place : ℕ) → place + 1 ≡ length values
    → (front : List Value) × (last : Value) × (values ≡ front ++ last ∷ []) × (length front ≡ place)
front_last [] place e = absurd (omega arith)
front_last (value ∷ []) place e = ([], value, refl, omega arith)
front_last (value ∷ next ∷ values) zero e = absurd (omega arith)
front_last (value ∷ next ∷ values) (suc place) e =
    let more = front_last (next ∷ values) place (omega arith) in
    (value ∷ more.0, more.1, ap (λ vs. value ∷ vs) more.2, omega (arith, more.3))

-- ---- indexes

begun_alike : (one other : List Value) (classes : List ℕ) (row : List Value)
    → AllByRecursion (λ class. slice_get one class ≡ slice_get other class) classes
    → begun_cmp one classes row ≡ begun_cmp other classes row
begun_alike one other [] row h = refl
begun_alike one other (class ∷ classes) [] h = refl
begun_alike one other (class ∷ classes) (value ∷ row) h =
    let more : begun_cmp one classes row ≡ begun_cmp other classes row = begun_alike one other classes row h.1 in
    λ i. known_cmp (h.0 i) value (more i)

goes_on_alike : (one other : List Value) (index : Indexed)
    → AllByRecursion (λ class. slice_get one class ≡ slice_get other class) index.classes
    → goes_on one index ≡ goes_on other index
goes_on_alike one other index h =
    λ i. list_any (λ row. is_eq (begun_alike one other index.classes row h i)) index.rows

rows_alike : (one other : List Value) (index : Indexed)
    → AllByRecursion (λ class. slice_get one class ≡ slice_get other class) index.classes
    → rows_after one index ≡ rows_after other index
rows_alike one other index h =
    λ i. filter (λ row. is_eq (begun_alike one other index.classes row h i)) index.rows

no_column : (class : ℕ) (classes : List ℕ) → column_of class classes ≡ None
    → AllByRecursion (λ other. other ≡ class → ⊥) classes
no_column class [] h = tt
no_column class (other ∷ classes) h = by (λ k. no_column class classes k) (other == class) refl h
  where
    none_suc : (o : Option ℕ) → option_map suc o ≡ None → o ≡ None
    none_suc None e = refl
    none_suc (Some k) e = cc

    by : (column_of class classes ≡ None → AllByRecursion (λ other. other ≡ class → ⊥) classes)
        → (b : Bool) → (other == class) ≡ b
        → cond b (Some 0) (option_map suc (column_of class classes)) ≡ None
        → AllByRecursion (λ other. other ≡ class → ⊥) (other ∷ classes)
    by more true is e = cc
    by more false is e =
        (λ same. absurd (let k : (other == class) ≡ true = eq-eqb other class same in cc), more (none_suc _ e))

-- an index that doesn't have the last class goes on as before
pub index_unread : (values : List Value) (index : Indexed) (place : ℕ) → place + 1 ≡ length values
    → column_of place index.classes ≡ None
    → IsBegun (λ values. goes_on values index) values
    → goes_on values index ≡ true
index_unread values index place e none begun =
    let f = front_last values place e in
    let others = no_column place index.classes none in
    ap (λ vs. goes_on vs index) f.2
    ∙ (goes_on_alike (f.0 ++ f.1 ∷ []) f.0 index (all_unread index.classes others f.0 f.1 f.3)
    ∙ begun f.0 f.1 f.2)
  where
    all_unread : (classes : List ℕ) → AllByRecursion (λ other. other ≡ place → ⊥) classes
        → (front : List Value) (last : Value) → length front ≡ place
        → AllByRecursion (λ class. slice_get (front ++ last ∷ []) class ≡ slice_get front class) classes
    all_unread [] h front last w = tt
    all_unread (class ∷ classes) h front last w =
        (unread front last class (λ s. h.0 (s ∙ w)), all_unread classes h.1 front last w)

pub index_refuses : (values : List Value) (index : Indexed) (marks : List Bool)
    → length values ≤ length marks
    → goes_on values index ≡ false
    → AllByRecursion (λ class. class < length marks → IsMarked marks class) index.classes
    → IsRefusedFor (λ values. goes_on values index) values marks
index_refuses values index marks room refused marked others l agree =
    goes_on_alike others values index (all_agreed marks values others index.classes room l agree marked) ∙ refused

-- the values behind lists that agree on the classes of the index that gives them
pub index_followed : (values : List Value) (index : Indexed) (indexes : List Indexed) (marks : List Bool) (column : ℕ)
    → length values ≤ length marks
    → column_of (length values) index.classes ≡ Some column
    → AllByRecursion (λ class. class < length marks → IsMarked marks class) index.classes
    → IsFollowedFor (candidates_in (index ∷ indexes)) values marks
index_followed values index indexes marks column room is marked others l agree =
    first others (ap (λ n. column_of n index.classes) l ∙ is)
    ∙ (ap (column_values column)
    (rows_alike others values index (all_agreed marks values others index.classes room l agree marked))
    ∙ sym (first values is))
  where
    first : (vs : List Value) → column_of (length vs) index.classes ≡ Some column
        → candidates_in (index ∷ indexes) vs ≡ column_values column (rows_after vs index)
    first vs e = ap (candidates_or vs index (candidates_in indexes vs)) e

pub others_followed : (values : List Value) (index : Indexed) (indexes : List Indexed) (marks : List Bool)
    → column_of (length values) index.classes ≡ None
    → IsFollowedFor (candidates_in indexes) values marks
    → IsFollowedFor (candidates_in (index ∷ indexes)) values marks
others_followed values index indexes marks none more others l agree =
    next others (ap (λ n. column_of n index.classes) l ∙ none) ∙ (more others l agree ∙ sym (next values none))
  where
    next : (vs : List Value) → column_of (length vs) index.classes ≡ None
        → candidates_in (index ∷ indexes) vs ≡ candidates_in indexes vs
    next vs e = ap (candidates_or vs index (candidates_in indexes vs)) e

pub none_followed : (values : List Value) (marks : List Bool) → IsFollowedFor (candidates_in []) values marks
none_followed values marks others l agree = refl

-- ---- tests

slot_alike : (marks : List Bool) (values others : List Value) (slot : Slot)
    → length values ≤ length marks
    → length others ≡ length values → Agrees marks values others
    → IsSlotMarked marks slot
    → slot_there others slot ≡ slot_there values slot
slot_alike marks values others (Fixed value) room l agree marked = refl
slot_alike marks values others (Class number) room l agree marked =
    agreed marks values others number l agree (λ less. marked (omega arith))

slot_unread : (front : List Value) (last : Value) (slot : Slot) → is_class (length front) slot ≡ false
    → slot_there (front ++ last ∷ []) slot ≡ slot_there front slot
slot_unread front last (Fixed value) h = refl
slot_unread front last (Class number) h =
    unread front last number (λ same. let k : (number == length front) ≡ true = eq-eqb number (length front) same in cc)

pub slot_marked_still : (some all : List Bool) (slot : Slot) → length all ≡ length some
    → ((place : ℕ) → IsMarked some place → IsMarked all place) → IsSlotMarked some slot → IsSlotMarked all slot
slot_marked_still some all (Fixed value) l kept h = tt
slot_marked_still some all (Class number) l kept h = λ less. kept number (h (omega arith))

pub test_unread : (values : List Value) (test : Test Slot) (place : ℕ) → place + 1 ≡ length values
    → is_class place test.left ≡ false → is_class place test.right ≡ false
    → IsBegun (λ values. may_hold values test) values
    → may_hold values test ≡ true
test_unread values test place e no_left no_right begun =
    let f = front_last values place e in
    let left : slot_there (f.0 ++ f.1 ∷ []) test.left ≡ slot_there f.0 test.left =
    slot_unread f.0 f.1 test.left (ap (λ n. is_class n test.left) f.3 ∙ no_left) in
    let right : slot_there (f.0 ++ f.1 ∷ []) test.right ≡ slot_there f.0 test.right =
    slot_unread f.0 f.1 test.right (ap (λ n. is_class n test.right) f.3 ∙ no_right) in
    ap (λ vs. may_hold vs test) f.2
    ∙ ((λ i. may_compare test.comparison (left i) (right i)) ∙ begun f.0 f.1 f.2)

pub test_refuses : (values : List Value) (test : Test Slot) (marks : List Bool)
    → length values ≤ length marks
    → may_hold values test ≡ false
    → IsSlotMarked marks test.left → IsSlotMarked marks test.right
    → IsRefusedFor (λ values. may_hold values test) values marks
test_refuses values test marks room refused left right others l agree =
    let one = slot_alike marks values others test.left room l agree left in
    let two = slot_alike marks values others test.right room l agree right in
    (λ i. may_compare test.comparison (one i) (two i)) ∙ refused

-- ---- kinds

none_asked : (kinds : List Kind) → are_of_kinds kinds [] ≡ true
none_asked [] = refl
none_asked (kind ∷ kinds) = refl

kinds_pushed : (kinds : List Kind) (front : List Value) (last : Value)
    → are_of_kinds kinds front ≡ true → fits last (slice_get kinds (length front)) ≡ true
    → are_of_kinds kinds (front ++ last ∷ []) ≡ true
kinds_pushed [] [] last h is = cc
kinds_pushed (kind ∷ kinds) [] last h is = λ i. is i && none_asked kinds i
kinds_pushed [] (value ∷ front) last h is = cc
kinds_pushed (kind ∷ kinds) (value ∷ front) last h is =
    let k = and_both (same_kind (kind_of value) kind) (are_of_kinds kinds front) h in
    let more : are_of_kinds kinds (front ++ last ∷ []) ≡ true = kinds_pushed kinds front last k.1 is in
    λ i. k.0 i && more i

pub kinds_unfit : (kinds : List Kind) (values : List Value) (place : ℕ) (value : Value)
    → slice_get values place ≡ Some value → fits value (slice_get kinds place) ≡ false
    → are_of_kinds kinds values ≡ false
kinds_unfit kinds [] place value is unfit = cc
kinds_unfit [] (v ∷ values) place value is unfit = refl
kinds_unfit (kind ∷ kinds) (v ∷ values) zero value is unfit =
    let same : v ≡ value = cc in
    ap (λ b. b && are_of_kinds kinds values) (ap (λ w. same_kind (kind_of w) kind) same ∙ unfit)
kinds_unfit (kind ∷ kinds) (v ∷ values) (suc place) value is unfit =
    ap (λ b. same_kind (kind_of v) kind && b) (kinds_unfit kinds values place value is unfit)
    ∙ nothing (same_kind (kind_of v) kind)

pub kinds_pass : (kinds : List Kind) (values : List Value) (place : ℕ) (value : Value)
    → place + 1 ≡ length values → slice_get values place ≡ Some value
    → IsBegun (are_of_kinds kinds) values
    → fits value (slice_get kinds place) ≡ true
    → are_of_kinds kinds values ≡ true
kinds_pass kinds values place value e there begun is =
    let f = front_last values place e in
    let some : Some f.1 ≡ Some value =
    sym (get_seam f.0 [] f.1 place (sym f.3)) ∙ (sym (ap (λ vs. slice_get vs place) f.2) ∙ there) in
    let last : f.1 ≡ value = cc in
    ap (are_of_kinds kinds) f.2
    ∙ kinds_pushed kinds f.0 f.1 (begun f.0 f.1 f.2) ((λ i. fits (last i) (slice_get kinds (f.3 i))) ∙ is)

pub kinds_refuse : (kinds : List Kind) (values : List Value) (place : ℕ) (value : Value) (marks : List Bool)
    → place + 1 ≡ length values → slice_get values place ≡ Some value
    → fits value (slice_get kinds place) ≡ false
    → IsMarked marks place
    → IsRefusedFor (are_of_kinds kinds) values marks
kinds_refuse kinds values place value marks e there unfit marked others l agree =
    kinds_unfit kinds others place value (agree place (omega arith) marked ∙ there) unfit

-- ---- lists of tests and indexes

module _ {X : Type 0} (p : List Value → X → Bool) where
  pub begun_one : (x : X) (xs : List X) (values : List Value)
      → IsBegun (λ values. list_all (p values) (x ∷ xs)) values → IsBegun (λ values. p values x) values
  begun_one x xs values begun front last e = (and_both (p front x) (list_all (p front) xs) (begun front last e)).0

  pub begun_others : (x : X) (xs : List X) (values : List Value)
      → IsBegun (λ values. list_all (p values) (x ∷ xs)) values → IsBegun (λ values. list_all (p values) xs) values
  begun_others x xs values begun front last e = (and_both (p front x) (list_all (p front) xs) (begun front last e)).1

  pub one_refuses : (x : X) (xs : List X) (values : List Value) (marks : List Bool)
      → IsRefusedFor (λ values. p values x) values marks
      → IsRefusedFor (λ values. list_all (p values) (x ∷ xs)) values marks
  one_refuses x xs values marks refused others l agree =
      ap (λ b. b && list_all (p others) xs) (refused others l agree)

  pub others_refuse : (x : X) (xs : List X) (values : List Value) (marks : List Bool)
      → IsRefusedFor (λ values. list_all (p values) xs) values marks
      → IsRefusedFor (λ values. list_all (p values) (x ∷ xs)) values marks
  others_refuse x xs values marks refused others l agree =
      ap (λ b. p others x && b) (refused others l agree) ∙ nothing (p others x)

-- ---- together

pub begun_left : (p q : List Value → Bool) (values : List Value) → IsBegun (λ values. p values && q values) values
    → IsBegun p values
begun_left p q values begun front last e = (and_both (p front) (q front) (begun front last e)).0

pub begun_right : (p q : List Value → Bool) (values : List Value) → IsBegun (λ values. p values && q values) values
    → IsBegun q values
begun_right p q values begun front last e = (and_both (p front) (q front) (begun front last e)).1

pub left_refuses : (p q : List Value → Bool) (values : List Value) (marks : List Bool)
    → IsRefusedFor p values marks → IsRefusedFor (λ values. p values && q values) values marks
left_refuses p q values marks refused others l agree = ap (λ b. b && q others) (refused others l agree)

pub right_refuses : (p q : List Value → Bool) (values : List Value) (marks : List Bool)
    → IsRefusedFor q values marks → IsRefusedFor (λ values. p values && q values) values marks
right_refuses p q values marks refused others l agree =
    ap (λ b. p others && b) (refused others l agree) ∙ nothing (p others)
