-- Combinations of rows that meet the tests of a sub-select have no row that is ruled out.
use Rattle.std.proofs.Common.{◌≡◌, ◌≤◌, ◌<◌, ◌+◌, ◌-◌, ◌||◌, ◌&&◌, inl, inr, ℕ, Bool, true, false, not, List, [], ◌∷◌}
use Rattle.std.proofs.Common.{◌++◌, map, length, refl, sym, ap, subst, ◌∙◌, arith, rules, append_assoc, Contains}
use Rattle.std.proofs.Common.{Option, Some, None, cond, drop, nat_lt, slice_get, slice_index_or}
use Rattle.std.proofs.lemmas.List.{get_or-append-add, length-append}
use Rattle.std.proofs.lemmas.Option.{get_or_from_slice_get, same_Some}
use Rattle.std.specs.List.{AllByRecursion, filter, flat_map, list_all, list_any}
use Rattle.std.specs.Cmp.{Equal-is, eq_by_cmp_equiv}
use Rattle.std.specs.Ordering.{eq_by_cmp}
use Rattle.ent_lists.specs.Sets as set
use Rattle.ent_lists.specs.Laws.{contains-ascending, contains-from_list}
use Rattle.ent_lists.specs.Elements.{In, and_both, both_and, any_in, any_some, clash, got_on, in_flat, of_filter, of_map}
use Rattle.ent_lists.specs.Elements.{or_cases, to_filter, to_flat, to_map, turned}
use Rattle.ent_value.specs.Order.{exact_rows, rows_equal, rows_total, values_total}
use Rattle.ent_value.specs.Value.{row_cmp, value_cmp}
use Rattle.ent_value.specs.declared.value.Value.{Value}
use Rattle.ent_tree.specs.declared.operand.Test.{Test}
use Rattle.ent_semantics.specs.Choice.{AreGroundings, IsChoice, IsKindedGrounding}
use Rattle.ent_semantics.specs.Database.{Rows}
use Rattle.ent_semantics.specs.Entangled.{Valuation}
use Rattle.ent_semantics.specs.Form.{Tables, form_rows, is_form_grounding, membership_holds, operand_worth, term_worth}
use Rattle.ent_semantics.specs.Pool.{Posted}
use Rattle.ent_semantics.specs.Selection.{combinations, compares, holds, meets}
use Rattle.ent_semantics.specs.Term.{no_value}
use Rattle.ent_semantics.specs.declared.entangled.Entangled.{Entangled}
use Rattle.ent_semantics.specs.declared.entangled.Membership.{Membership}
use Rattle.ent_semantics.specs.declared.entangled.Term.{Term}
use Rattle.ent_semantics.specs.declared.entangled.Term.TheVariants as terms
use Rattle.ent_semantics.specs.declared.operand.Operand.{Operand}
use Rattle.ent_semantics.specs.declared.operand.Operand.TheVariants as operands
use Rattle.ent_wake_laws.specs.Wake.{HasWidths, Sleeps, SleepsFrom, differs, differs_at, has_row, is_ruled_out}
use Rattle.ent_wake_laws.specs.Wake.{own_value, refutes}

-- what a closed operand is worth over a combination
abbrev worth : List Value → Operand Value → Value
worth row operand = operand_worth (λ value. value) row operand

-- ---- rows of tables

row_listed : (rows : Rows) (row : List Value) → set.contains rows row ≡ true → In row (set.ascending rows)
row_listed rows row has =
    let found = any_some (eq_by_cmp row_cmp row) (set.ascending rows) (sym (contains-ascending rows row) ∙ has) in
    subst (λ r. In r (set.ascending rows))
    (sym (exact_rows row found.0 ((Equal-is (row_cmp row found.0)).0 found.2))) found.1

row_there : (rows : Rows) (row : List Value) → In row (set.ascending rows) → set.contains rows row ≡ true
row_there rows row at =
    contains-ascending rows row ∙ any_in (eq_by_cmp row_cmp row) (set.ascending rows) row at (rows_equal.refl row)

-- a row of a set of rows that are listed
of_list : (rows : List (List Value)) (row : List Value) → set.contains (set.from_list {R = row_cmp} rows) row ≡ true
    → In row rows
of_list rows row has =
    let found = any_some (eq_by_cmp row_cmp row) rows (sym (contains-from_list rows_total exact_rows rows row) ∙ has) in
    subst (λ r. In r rows) (sym (exact_rows row found.0 ((Equal-is (row_cmp row found.0)).0 found.2))) found.1

to_list : (rows : List (List Value)) (row : List Value) → In row rows
    → set.contains (set.from_list {R = row_cmp} rows) row ≡ true
to_list rows row at =
    contains-from_list rows_total exact_rows rows row ∙ any_in (eq_by_cmp row_cmp row) rows row at (rows_equal.refl row)

-- ---- what a row decides of a combination

-- what stands behind some values
behind : (front rest : List Value) (number : ℕ) (value : Value) → nat_lt number (length front) ≡ false
    → slice_get rest (number - length front) ≡ Some value → slice_index_or (front ++ rest) number no_value ≡ value
behind front rest number value late there =
    let e : number ≡ length front + (number - length front) = grind (arith, late) in
    ap (λ n. slice_index_or (front ++ rest) n no_value) e
    ∙ get_or-append-add front rest (number - length front) no_value
    ∙ get_or_from_slice_get rest (number - length front) value no_value there

module _ (front row others : List Value) where
  -- a row says what an operand is worth over each combination in which it stands there
  own_is_worth : (operand : Operand Value) (value : Value) → own_value (length front) row operand ≡ Some value
      → worth (front ++ (row ++ others)) operand ≡ value
  own_is_worth (operands.Known known) value is = same_Some known value is
  own_is_worth (operands.Column number) value is = by (nat_lt number (length front)) refl is
    where
      by : (b : Bool) → nat_lt number (length front) ≡ b
          → cond b None (slice_get row (number - length front)) ≡ Some value
          → slice_index_or (front ++ (row ++ others)) number no_value ≡ value
      by true early is = cc
      by false late is =
          behind front (row ++ others) number value late (got_on row others (number - length front) value is)

  -- a test that it refutes doesn't hold
  refuted : (test : Test (Operand Value)) → refutes (length front) row test ≡ true
      → holds (worth (front ++ (row ++ others))) test ≡ true → ⊥
  refuted test fails held =
      by (own_value (length front) row test.left) refl (own_value (length front) row test.right) refl
    where
      by : (left : Option Value) → own_value (length front) row test.left ≡ left
          → (right : Option Value) → own_value (length front) row test.right ≡ right → ⊥
      by (Some left) is (Some right) is_too =
          let h : not (compares test.comparison (value_cmp left right)) ≡ true = rw (is, is_too) at fails in
          let same : compares test.comparison (value_cmp left right) ≡ true =
          (λ i. compares test.comparison (value_cmp (sym (own_is_worth test.left left is) i)
          (sym (own_is_worth test.right right is_too) i))) ∙ held in
          clash (compares test.comparison (value_cmp left right)) same (turned _ h)
      by (Some left) is None is_too = let h : false ≡ true = rw (is, is_too) at fails in cc
      by None is right is_too = let h : false ≡ true = rw is at fails in cc

  -- a constant from which it differs isn't shown
  different : (values : Valuation) (items : List (Operand Value)) (tuple : List (Term Value))
      → differs (length front) row items tuple ≡ true
      → map (worth (front ++ (row ++ others))) items ≡ map (term_worth (λ value. value) values) tuple → ⊥
  different values [] tuple differ same = cc
  different values (item ∷ items) [] differ same = cc
  different values (item ∷ items) (term ∷ tuple) differ same =
      elim (or_cases _ _ differ) [
        | inl here ↦ first (own_value (length front) row item) refl term here (ap (λ xs. head_or xs) same)
        | inr more ↦ different values items tuple more (ap (λ xs. drop 1 xs) same)
      ]
    where
      head_or : List Value → Value
      head_or xs = slice_index_or xs 0 no_value

      first : (shown : Option Value) → own_value (length front) row item ≡ shown → (term : Term Value)
          → differs_at (own_value (length front) row item) term ≡ true
          → worth (front ++ (row ++ others)) item ≡ term_worth (λ value. value) values term → ⊥
      first (Some shown) is (terms.Known value) differ same =
          let h : not (eq_by_cmp value_cmp shown value) ≡ true = rw is at differ in
          let equal : shown ≡ value = sym (own_is_worth item shown is) ∙ same in
          clash (eq_by_cmp value_cmp shown value)
          (ap (λ v. eq_by_cmp value_cmp v value) equal ∙ (eq_by_cmp_equiv values_total).refl value) (turned _ h)
      first (Some shown) is (terms.Variable number) differ same =
          let h : false ≡ true = rw is at differ in cc
      first None is term differ same = let h : false ≡ true = rw is at differ in cc

-- each of a list passes
all_pass : {X : Type 0} (p : X → Bool) (xs : List X) → list_all p xs ≡ true → (x : X) → In x xs → p x ≡ true
all_pass p [] all x at = absurd at
all_pass p (y ∷ ys) all x (inl same) = ap p same ∙ (and_both (p y) _ all).0
all_pass p (y ∷ ys) all x (inr at) = all_pass p ys (and_both (p y) _ all).1 x at

-- ---- combinations

module _ (widths : List ℕ) (old new : Tables) (wide : HasWidths widths new) (membership : Membership Value)
    (values : Valuation) where
  abbrev select_tests : List (Test (Operand Value))
  select_tests = membership.select.tests

  abbrev shown : List Value → List Value
  shown row = map (worth row) membership.select.items

  abbrev tuple : List Value
  tuple = map (term_worth (λ value. value) values) membership.terms

  abbrev rows_of : Tables → List ℕ → List Rows
  rows_of tables sources = map (λ number. slice_index_or tables number set.empty) sources

  -- a combination that gives the tuple has no row that is ruled out
  not_ruled_out : (front row others : List Value) → is_ruled_out membership (length front) row ≡ true
      → meets worth select_tests (front ++ (row ++ others)) ≡ true → shown (front ++ (row ++ others)) ≡ tuple → ⊥
  not_ruled_out front row others out met gives =
      elim (or_cases _ _ out) [
        | inl some ↦ let found = any_some (refutes (length front) row) select_tests some in
            refuted front row others found.0 found.2
            (all_pass (holds (worth (front ++ (row ++ others)))) select_tests met found.0 found.1)
        | inr differ ↦ different front row others values membership.select.items membership.terms differ gives
      ]

  -- so each of its rows stood in its table before
  stood : (sources : List ℕ) (front rest : List Value)
      → SleepsFrom widths old new membership (length front) sources
      → In rest (combinations (rows_of new sources))
      → meets worth select_tests (front ++ rest) ≡ true → shown (front ++ rest) ≡ tuple
      → In rest (combinations (rows_of old sources))
  stood [] front rest sleeps at met gives = at
  stood (table ∷ sources) front rest sleeps at met gives =
      let now = slice_index_or new table set.empty in
      let before = slice_index_or old table set.empty in
      let chosen = in_flat (λ row. map (λ others. row ++ others) (combinations (rows_of new sources)))
      (set.ascending now) rest at in
      let row = chosen.0 in
      let more = of_map (λ others. row ++ others) (combinations (rows_of new sources)) rest chosen.2 in
      let others = more.0 in
      let is : front ++ rest ≡ front ++ (row ++ others) = ap (λ r. front ++ r) more.2 in
      let met_so : meets worth select_tests (front ++ (row ++ others)) ≡ true =
      ap (meets worth select_tests) (sym is) ∙ met in
      let gives_so : shown (front ++ (row ++ others)) ≡ tuple = ap shown (sym is) ∙ gives in
      let there : has_row new table row ≡ true = row_there now row chosen.1 in
      let width : length (front ++ row) ≡ length front + slice_index_or widths table 0 =
      length-append front row ∙ ap (λ n. length front + n) (wide table row there) in
      let joined : front ++ (row ++ others) ≡ (front ++ row) ++ others = sym (append_assoc front row others) in
      let was : has_row old table row ≡ true = by_had row others there met_so gives_so (has_row old table row) refl in
      let rest_stood = stood sources (front ++ row) others
      (subst (λ n. SleepsFrom widths old new membership n sources) (sym width) sleeps.1) more.1
      (ap (meets worth select_tests) (sym joined) ∙ met_so) (ap shown (sym joined) ∙ gives_so) in
      to_flat (λ row. map (λ others. row ++ others) (combinations (rows_of old sources))) (set.ascending before) row
      rest (row_listed before row was)
      (subst (λ r. In r (map (λ others. row ++ others) (combinations (rows_of old sources)))) (sym more.2)
      (to_map (λ others. row ++ others) (combinations (rows_of old sources)) others rest_stood))
    where
      by_had : (row others : List Value) → has_row new table row ≡ true
          → meets worth select_tests (front ++ (row ++ others)) ≡ true → shown (front ++ (row ++ others)) ≡ tuple
          → (b : Bool) → has_row old table row ≡ b → has_row old table row ≡ true
      by_had row others there met gives true is = is
      by_had row others there met gives false is =
          absurd (not_ruled_out front row others (sleeps.0 row there is) met gives)

  membership_held : SleepsFrom widths old new membership 0 membership.select.sources
      → membership_holds (λ value. value) new values membership ≡ true
      → membership_holds (λ value. value) old values membership ≡ true
  membership_held sleeps holds_now =
      let sources = membership.select.sources in
      let listed = of_list (map shown (filter (meets worth select_tests) (combinations (rows_of new sources)))) tuple
      holds_now in
      let from = of_map shown (filter (meets worth select_tests) (combinations (rows_of new sources))) tuple listed in
      let met = of_filter (meets worth select_tests) (combinations (rows_of new sources)) from.0 from.1 in
      let before = stood sources [] from.0 sleeps met.0 met.1 (sym from.2) in
      to_list (map shown (filter (meets worth select_tests) (combinations (rows_of old sources)))) tuple
      (subst (λ row. In row (map shown (filter (meets worth select_tests) (combinations (rows_of old sources)))))
      (sym from.2)
      (to_map shown (filter (meets worth select_tests) (combinations (rows_of old sources))) from.0
      (to_filter (meets worth select_tests) (combinations (rows_of old sources)) from.0 before met.1)))

-- ---- groundings and choices

module _ (widths : List ℕ) (old new : Tables) (wide : HasWidths widths new) where
  all_held : (values : Valuation) (atoms : List (Membership Value))
      → AllByRecursion (λ membership. SleepsFrom widths old new membership 0 membership.select.sources) atoms
      → list_all (membership_holds (λ value. value) new values) atoms ≡ true
      → list_all (membership_holds (λ value. value) old values) atoms ≡ true
  all_held values [] sleep held = refl
  all_held values (membership ∷ more) sleep held =
      let parts = and_both (membership_holds (λ value. value) new values membership) _ held in
      both_and (membership_holds (λ value. value) old values membership) _
      (membership_held widths old new wide membership values sleep.0 parts.0) (all_held values more sleep.1 parts.1)

  pub grounding_before : (statement : Entangled Value) (values : Valuation) → Sleeps widths old new statement
      → is_form_grounding (λ value. value) new statement values ≡ true
      → is_form_grounding (λ value. value) old statement values ≡ true
  grounding_before statement values sleep grounds =
      let parts = and_both _ _ grounds in
      let body = and_both (list_all (membership_holds (λ value. value) new values) statement.atoms) _ parts.1 in
      both_and _ _ parts.0
      (both_and (list_all (membership_holds (λ value. value) old values) statement.atoms) _
      (all_held values statement.atoms sleep body.0) body.1)

  groundings_before : (members : List Posted) (groundings : List Valuation)
      → AllByRecursion (λ (member : Posted). Sleeps widths old new member.statement) members
      → AreGroundings new members groundings → AreGroundings old members groundings
  groundings_before [] [] sleep grounded = tt
  groundings_before [] (values ∷ more) sleep grounded = grounded
  groundings_before (member ∷ members) [] sleep grounded = grounded
  groundings_before (member ∷ members) (values ∷ more) sleep grounded = (
    record {
      kinds = grounded.0.kinds;
      grounds = grounding_before member.statement values sleep.0 grounded.0.grounds;
    },
    groundings_before members more sleep.1 grounded.1,
  )

  pub choice_before : (members : List Posted) (groundings : List Valuation)
      → AllByRecursion (λ (member : Posted). Sleeps widths old new member.statement) members
      → IsChoice new members groundings → IsChoice old members groundings
  choice_before members groundings sleep choice =
      record { grounded = groundings_before members groundings sleep choice.grounded; met = choice.met }
