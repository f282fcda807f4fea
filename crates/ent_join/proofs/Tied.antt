-- What the indexes and tests of statements let through are their groundings.
use Rattle.std.proofs.Common.{◌≡◌, ℕ, zero, suc, ◌<◌, Bool, true, false, List, [], ◌∷◌, length, map}
use Rattle.std.proofs.Common.{Some, refl, sym, ap, subst, ◌∙◌}
use Rattle.std.specs.Prelude.{◌==◌, ◌&&◌, ◌||◌, slice_index_or}
use Rattle.std.specs.List.{AllByRecursion, cons_option, flat_map, list_all, list_any}
use Rattle.std.specs.Ordering.{eq_by_cmp}
use Rattle.std.proofs.lemmas.Bool.{eq-eqb, eqb-true}
use Rattle.std.proofs.lemmas.List.Folds.{list_all-append}
use Rattle.std.proofs.lemmas.Map.Views.{any-filter_same}
use Rattle.std.proofs.lemmas.Option.{slice_get-get_or}
use Rattle.ent_lists.specs.Sets as set
use Rattle.ent_lists.specs.Laws.{contains-ascending}
use Rattle.ent_lists.specs.Elements.{all_first, all_second, and_both}
use Rattle.ent_value.specs.Value.{kind_of, kinds_of, row_cmp}
use Rattle.ent_value.specs.declared.value.Kind.TheVariants as kinds
use Rattle.ent_value.specs.declared.value.Value.{Value}
use Rattle.ent_tree.specs.declared.operand.Test.{Test}
use Rattle.ent_rel.specs.Numbered.{Numbered, relation_of}
use Rattle.ent_semantics.specs.Selection.{holds, meets, selection}
use Rattle.ent_semantics.specs.Term.{no_value}
use Rattle.ent_semantics.specs.Form.{Tables, form_rows, membership_holds, term_worth}
use Rattle.ent_semantics.specs.declared.entangled.Membership.{Membership}
use Rattle.ent_semantics.specs.declared.entangled.Term.{Term}
use Rattle.ent_semantics.specs.declared.entangled.Term.TheVariants as terms
use Rattle.ent_semantics.specs.declared.statement.Select.{Select}
use Rattle.ent_ordinary.specs.Early.{may_compare}
use Rattle.ent_semantics.specs.Choice.{AreGroundings}
use Rattle.ent_semantics.specs.Pool.{Posted}
use Rattle.ent_plan.specs.Plan.{slot_kind, slot_value}
use Rattle.ent_plan.specs.Tables.{sources_of}
use Rattle.ent_plan.specs.declared.slot.Slot.{Slot}
use Rattle.ent_plan.specs.declared.slot.Slot.TheVariants.{Fixed, Class}
use Rattle.ent_ordinary.specs.Tables.{rows_in}
use Rattle.ent_ordinary.specs.Worth.{worth_over}
use Rattle.ent_join.specs.Alone.{is_left}
use Rattle.ent_join.specs.Asked.{tables_at, left_rows, select_rows, membership_index, all_indexes, slot_test}
use Rattle.ent_join.specs.Asked.{all_tests}
use Rattle.ent_join.specs.Frame.{may_hold, slot_there}
use Rattle.ent_join.specs.Index.{goes_on}
use Rattle.ent_join.specs.Keyed.{class_numbers, term_slot}
use Rattle.ent_join.specs.Laid.{IsLaid}
use Rattle.ent_join.proofs.Left.{tuple_left}
use Rattle.ent_join.proofs.Keys.{IsBelow, index_is}

-- ---- tables under their numbers

abbrev pub Named : List ℕ → ℕ → Type 0
Named numbers source = list_any (λ m. m == source) numbers ≡ true

table_is : (tables : List Numbered) (laid : Tables) (numbers : List ℕ) (number : ℕ)
    → AllByRecursion (IsLaid tables laid) numbers → Named numbers number → IsLaid tables laid number
table_is tables laid [] number all named = cc
table_is tables laid (other ∷ numbers) number all named =
    by (λ k. table_is tables laid numbers number all.1 k) (other == number) refl named
  where
    by : (Named numbers number → IsLaid tables laid number) → (b : Bool) → (other == number) ≡ b
        → (b || list_any (λ m. m == number) numbers) ≡ true → IsLaid tables laid number
    by more true is h = subst (IsLaid tables laid) (eqb-true other number is) all.0
    by more false is h = more h

sources_are : (tables : List Numbered) (laid : Tables) (numbers : List ℕ)
    → AllByRecursion (IsLaid tables laid) numbers
    → (sources : List ℕ) → AllByRecursion (Named numbers) sources
    → rows_in (map relation_of (tables_at tables sources))
    ≡ map (λ number. slice_index_or laid number set.empty) sources
sources_are tables laid numbers all [] named = refl
sources_are tables laid numbers all (source ∷ sources) named =
    let is = table_is tables laid numbers source all named.0 in
    ap (λ o. rows_in (map relation_of (cons_option o (tables_at tables sources)))) is.1
    ∙ (λ i. is.2 i ∷ sources_are tables laid numbers all sources named.1 i)

-- ---- values of slots

abbrev pub SlotBelow : ℕ → Slot → Type 0
SlotBelow n (Fixed value) = Unit {0}
SlotBelow n (Class number) = number < n

slot_below : (n : ℕ) (slots : List Slot) (number : ℕ) → AllByRecursion (SlotBelow n) slots
    → SlotBelow n (slice_index_or slots number (Fixed no_value))
slot_below n [] number h = tt
slot_below n (slot ∷ slots) zero h = h.0
slot_below n (slot ∷ slots) (suc number) h = slot_below n slots number h.1

term_below : (n : ℕ) (slots : List Slot) (term : Term Value) → AllByRecursion (SlotBelow n) slots
    → SlotBelow n (term_slot slots term)
term_below n slots (terms.Known value) h = tt
term_below n slots (terms.Variable number) h = slot_below n slots number h

column_below : (values : List Value) (slot : Slot) (columns : List Slot) → SlotBelow (length values) slot
    → AllByRecursion (IsBelow values) (class_numbers columns)
    → AllByRecursion (IsBelow values) (class_numbers (slot ∷ columns))
column_below values (Fixed value) columns h all = all
column_below values (Class number) columns h all = (h, all)

pub columns_below : (values : List Value) (slots : List Slot) (ts : List (Term Value))
    → AllByRecursion (SlotBelow (length values)) slots
    → AllByRecursion (IsBelow values) (class_numbers (map (term_slot slots) ts))
columns_below values slots [] h = tt
columns_below values slots (term ∷ ts) h =
    column_below values (term_slot slots term) (map (term_slot slots) ts) (term_below (length values) slots term h)
    (columns_below values slots ts h)

variable_is : (values : List Value) (slots : List Slot) (number : ℕ)
    → slot_value values (slice_index_or slots number (Fixed no_value))
    ≡ slice_index_or (map (slot_value values) slots) number no_value
variable_is values [] number = refl
variable_is values (slot ∷ slots) zero = refl
variable_is values (slot ∷ slots) (suc number) = variable_is values slots number

term_is : (values : List Value) (slots : List Slot) (term : Term Value)
    → slot_value values (term_slot slots term) ≡ term_worth (λ value. value) (map (slot_value values) slots) term
term_is values slots (terms.Known value) = refl
term_is values slots (terms.Variable number) = variable_is values slots number

terms_are : (values : List Value) (slots : List Slot) (ts : List (Term Value))
    → map (slot_value values) (map (term_slot slots) ts)
    ≡ map (term_worth (λ value. value) (map (slot_value values) slots)) ts
terms_are values slots [] = refl
terms_are values slots (term ∷ ts) = λ i. term_is values slots term i ∷ terms_are values slots ts i

slot_is_there : (values : List Value) (slot : Slot) → SlotBelow (length values) slot
    → slot_there values slot ≡ Some (slot_value values slot)
slot_is_there values (Fixed value) h = refl
slot_is_there values (Class number) h = slice_get-get_or values number no_value h

-- ---- one statement

module _ (tables : List Numbered) (laid : Tables) (numbers : List ℕ)
    (all : AllByRecursion (IsLaid tables laid) numbers) (values : List Value) where
  abbrev valuation : List Slot → List Value
  valuation slots = map (slot_value values) slots

  pub rows_are : (select : Select Value) → AllByRecursion (Named numbers) select.sources
      → select_rows tables select ≡ form_rows (λ value. value) laid select
  rows_are select named =
      ap (selection (meets worth_over select.tests) (λ row. map (worth_over row) select.items))
      (sources_are tables laid numbers all select.sources named)

  test_is : (slots : List Slot) (test : Test (Term Value)) → AllByRecursion (SlotBelow (length values)) slots
      → may_hold values (slot_test slots test) ≡ holds (term_worth (λ value. value) (valuation slots)) test
  test_is slots test below =
      (λ i. may_compare test.comparison
      (slot_is_there values (term_slot slots test.left) (term_below (length values) slots test.left below) i)
      (slot_is_there values (term_slot slots test.right) (term_below (length values) slots test.right below) i))
      ∙ (λ i. may_compare test.comparison (Some (term_is values slots test.left i))
      (Some (term_is values slots test.right i)))

  tests_are : (slots : List Slot) (tests : List (Test (Term Value)))
      → AllByRecursion (SlotBelow (length values)) slots
      → list_all (may_hold values) (map (slot_test slots) tests)
      ≡ list_all (holds (term_worth (λ value. value) (valuation slots))) tests
  tests_are slots [] below = refl
  tests_are slots (test ∷ tests) below = λ i. test_is slots test below i && tests_are slots tests below i

  -- ---- all statements

  abbrev Sources : List Posted → List ℕ
  Sources members = flat_map (λ (member : Posted). sources_of member.statement) members

  kind_at : (vs : List Value) (number : ℕ)
      → kind_of (slice_index_or vs number no_value) ≡ slice_index_or (kinds_of vs) number kinds.Int
  kind_at [] number = refl
  kind_at (v ∷ vs) zero = refl
  kind_at (v ∷ vs) (suc number) = kind_at vs number

  slot_kinds : (slots : List Slot) → kinds_of (valuation slots) ≡ map (slot_kind (kinds_of values)) slots
  slot_kinds [] = refl
  slot_kinds (Fixed value ∷ slots) = ap (λ ks. kind_of value ∷ ks) (slot_kinds slots)
  slot_kinds (Class number ∷ slots) = λ i. kind_at values number i ∷ slot_kinds slots i

  kinds_width : (vs : List Value) → length (kinds_of vs) ≡ length vs
  kinds_width [] = refl
  kinds_width (v ∷ vs) = ap suc (kinds_width vs)

  and_same : (a b c d : Bool) → ((a && b) && (c && d)) ≡ ((a && c) && (b && d))
  and_same true b true d = refl
  and_same true true false d = refl
  and_same true false false d = refl
  and_same false b c d = refl

  abbrev Kinded : List Posted → List (List Slot) → Type 0
  Kinded members slots =
      map (map (slot_kind (kinds_of values))) slots ≡ map (λ (member : Posted). member.statement.variables) members

  abbrev Below : List (List Slot) → Type 0
  Below slots = AllByRecursion (AllByRecursion (SlotBelow (length values))) slots

  -- of groundings the tests hold
  pub tests_to : (members : List Posted) (slots : List (List Slot)) → Below slots
      → AreGroundings laid members (map (map (slot_value values)) slots)
      → list_all (may_hold values) (all_tests members slots) ≡ true
  tests_to [] slots below h = refl
  tests_to (member ∷ members) [] below h = absurd h
  tests_to (member ∷ members) (slots ∷ others) below h =
      let k = and_both _ _ (and_both _ _ h.0.grounds).1 in
      list_all-append (may_hold values) (map (slot_test slots) member.statement.tests) (all_tests members others)
      ∙ (λ i. tests_are slots member.statement.tests below.0 i && list_all (may_hold values) (all_tests members others))
      ∙ (λ i. k.1 i && list_all (may_hold values) (all_tests members others))
      ∙ tests_to members others below.1 h.1

  -- ---- over indexes without the rows that some tests refuse, which hold

  module _ (checks : List (Test Slot)) (hold : list_all (may_hold values) checks ≡ true) where
    membership_is : (slots : List Slot) (membership : Membership Value)
        → AllByRecursion (SlotBelow (length values)) slots
        → AllByRecursion (Named numbers) membership.select.sources
        → goes_on values (membership_index tables checks slots membership)
        ≡ membership_holds (λ value. value) laid (valuation slots) membership
    membership_is slots membership below named =
        let columns = map (term_slot slots) membership.terms in
        let rows = select_rows tables membership.select in
        let tuple = map (slot_value values) columns in
        let under : AllByRecursion (IsBelow values) (class_numbers columns) =
        columns_below values slots membership.terms below in
        (index_is columns (left_rows tables checks membership.select columns)).has values under
        ∙ any-filter_same (eq_by_cmp row_cmp tuple) (is_left checks columns) true
        (λ row is. tuple_left values checks columns under hold row is) (set.ascending rows)
        ∙ sym (contains-ascending rows tuple)
        ∙ ap (set.contains rows) (terms_are values slots membership.terms)
        ∙ ap (λ r. set.contains r (map (term_worth (λ value. value) (valuation slots)) membership.terms))
        (rows_are membership.select named)

    memberships_are : (slots : List Slot) (memberships : List (Membership Value))
        → AllByRecursion (SlotBelow (length values)) slots
        → AllByRecursion (Named numbers) (flat_map (λ membership. membership.select.sources) memberships)
        → list_all (goes_on values) (map (membership_index tables checks slots) memberships)
        ≡ list_all (membership_holds (λ value. value) laid (valuation slots)) memberships
    memberships_are slots [] below named = refl
    memberships_are slots (membership ∷ memberships) below named =
        let more = flat_map (λ (m : Membership Value). m.select.sources) memberships in
        (λ i. membership_is slots membership below
        (all_first (Named numbers) membership.select.sources more named) i
        && memberships_are slots memberships below (all_second (Named numbers) membership.select.sources more named) i)

    abbrev pub passes : List Posted → List (List Slot) → Bool
    passes members slots =
        list_all (goes_on values) (all_indexes tables checks members slots)
        && list_all (may_hold values) (all_tests members slots)

    -- the tests of one statement and those of the others
    split : (member : Posted) (members : List Posted) (slots : List Slot) (others : List (List Slot))
        → AllByRecursion (SlotBelow (length values)) slots
        → AllByRecursion (Named numbers) (sources_of member.statement)
        → passes (member ∷ members) (slots ∷ others)
        ≡ ((list_all (membership_holds (λ value. value) laid (valuation slots)) member.statement.atoms
        && list_all (holds (term_worth (λ value. value) (valuation slots))) member.statement.tests)
        && passes members others)
    split member members slots others below named =
        (λ i. list_all-append (goes_on values)
        (map (membership_index tables checks slots) member.statement.atoms)
        (all_indexes tables checks members others) i
        && list_all-append (may_hold values) (map (slot_test slots) member.statement.tests)
        (all_tests members others) i)
        ∙ and_same
        (list_all (goes_on values) (map (membership_index tables checks slots) member.statement.atoms))
        (list_all (goes_on values) (all_indexes tables checks members others))
        (list_all (may_hold values) (map (slot_test slots) member.statement.tests))
        (list_all (may_hold values) (all_tests members others))
        ∙ (λ i. (memberships_are slots member.statement.atoms below named i
        && tests_are slots member.statement.tests below i) && passes members others)

    pub groundings_from : (members : List Posted) (slots : List (List Slot)) → Kinded members slots → Below slots
        → AllByRecursion (Named numbers) (Sources members) → passes members slots ≡ true
        → AreGroundings laid members (map (map (slot_value values)) slots)
    groundings_from [] [] kinded below named h = tt
    groundings_from [] (slots ∷ others) kinded below named h = cc
    groundings_from (member ∷ members) [] kinded below named h = cc
    groundings_from (member ∷ members) (slots ∷ others) kinded below named h =
        let first : map (slot_kind (kinds_of values)) slots ≡ member.statement.variables = cc in
        let rest : Kinded members others = cc in
        let k = and_both _ _ (sym (split member members slots others below.0
        (all_first (Named numbers) (sources_of member.statement) (Sources members) named)) ∙ h) in
        let of_kinds : kinds_of (valuation slots) ≡ member.statement.variables = slot_kinds slots ∙ first in
        let wide : (length (valuation slots) == length member.statement.variables) ≡ true =
        eq-eqb _ _ (sym (kinds_width (valuation slots)) ∙ ap length of_kinds) in (
          record {
            kinds = of_kinds;
            grounds = ap (λ b. b
                && (list_all (membership_holds (λ value. value) laid (valuation slots)) member.statement.atoms
                && list_all (holds (term_worth (λ value. value) (valuation slots))) member.statement.tests)) wide ∙ k.0;
          },
          groundings_from members others rest below.1
              (all_second (Named numbers) (sources_of member.statement) (Sources members) named) k.1,
        )

    pub groundings_to : (members : List Posted) (slots : List (List Slot)) → Below slots
        → AllByRecursion (Named numbers) (Sources members)
        → AreGroundings laid members (map (map (slot_value values)) slots) → passes members slots ≡ true
    groundings_to [] slots below named h = refl
    groundings_to (member ∷ members) [] below named h = absurd h
    groundings_to (member ∷ members) (slots ∷ others) below named h =
        let k = and_both _ _ h.0.grounds in
        split member members slots others below.0
        (all_first (Named numbers) (sources_of member.statement) (Sources members) named)
        ∙ (λ i. k.1 i && passes members others)
        ∙ groundings_to members others below.1
        (all_second (Named numbers) (sources_of member.statement) (Sources members) named) h.1
