-- SELECT by the numbers of columns.
use Rattle.std.proofs.Common.{◌≡◌, ℕ, zero, suc, ◌+◌, Bool, true, false, ◌&&◌, List, [], ◌∷◌, ◌++◌, map, length}
use Rattle.std.proofs.Common.{Ok, refl, sym, ap, ◌∙◌, subst, arith}
use Rattle.std.specs.Prelude.{slice_index_or, if◌then◌else◌}
use Rattle.std.specs.List.{AllByRecursion, list_all}
use Rattle.std.proofs.lemmas.List.{append-nil, append_assoc, map-append, length-append, get_or_at}
use Rattle.ent_value.specs.Value.{value_cmp}
use Rattle.ent_value.specs.declared.value.Kind.{Kind}
use Rattle.ent_value.specs.declared.value.Value.{Value}
use Rattle.ent_value.specs.Kinds.{same_kind}
use Rattle.ent_tree.specs.declared.declaration.Create.{Create}
use Rattle.ent_tree.specs.declared.operand.ColumnReference.{ColumnReference}
use Rattle.ent_tree.specs.declared.operand.Operand.{Operand as TreeOperand}
use Rattle.ent_tree.specs.declared.operand.Operand.TheVariants as operands
use Rattle.ent_tree.specs.declared.operand.Test.{Test}
use Rattle.ent_tree.specs.declared.select.Items.{Items}
use Rattle.ent_tree.specs.declared.select.Items.TheVariants as items
use Rattle.ent_tree.specs.declared.select.Select.{Select as TreeSelect}
use Rattle.ent_semantics.specs.Database.{Name, Environment, is_among}
use Rattle.ent_semantics.specs.declared.operand.Known.{Known}
use Rattle.ent_semantics.specs.declared.operand.Operand.{Operand}
use Rattle.ent_semantics.specs.declared.statement.Select.{Select}
use Rattle.ent_semantics.specs.Form.{Tables, known_worth, operand_worth, form_rows}
use Rattle.ent_semantics.specs.Database.{Environment}
use Rattle.ent_semantics.specs.Selection.{compares, holds, meets, item_row, selection, select_rows, combinations}
use Rattle.ent_semantics.specs.Term.{no_value, refers_to, column_value, operand_value}
use Rattle.ent_form.specs.declared.fault.FormFault.TheVariants.{WrongKind, NoTable}
use Rattle.ent_form.specs.Catalogue.{schemas_of}
use Rattle.ent_form.specs.Kinds.{Bound}
use Rattle.ent_form.specs.declared.fault.FormFault.{FormFault}
use Rattle.ent_form.specs.Lookup.{value_in, operand_place, operand_in, operands_in, test_in}
use Rattle.ent_form.specs.Ordinary.{tests_from, tests_in, Shown, with_item, items_from, columns_from, all_shown}
use Rattle.ent_form.specs.Ordinary.{items_in}
use Rattle.ent_form.specs.Ordinary.{select_in}
use Rattle.ent_form.specs.Scope.{Visible, Scope, no_source, sources_in, referred_from, only_one}
use Rattle.ent_form.specs.Scope.{column_in}
use Rattle.ent_form.proofs.Heads.{unqualified, found_of}
use Rattle.ent_form.specs.Tables.{database_of, AreWide}
use Rattle.ent_form.proofs.Rows.{combinations_wide, selected_alike}
use Rattle.ent_form.proofs.Sources.{name_of, sources_seen}
use Rattle.ent_form.proofs.ResolvedSteps.{one_answer, demand_given}
use Rattle.ent_form.proofs.Terms.{value_same}

-- ---- a column by its number

none_at : (number : ℕ) → slice_index_or [] number no_value ≡ no_value
none_at zero = refl
none_at (suc number) = refl

-- the first column that is meant has the value that is meant
first_meant : (columns : List Visible) (row : List Value) (reference : ColumnReference) (first : ℕ) (found : ℕ × Kind)
    → (rest : List (ℕ × Kind)) → referred_from first columns reference ≡ found ∷ rest
    → (number : ℕ) × (found.0 ≡ first + number)
    × (column_value (map name_of columns) row reference ≡ slice_index_or row number no_value)
first_meant [] row reference first found rest e = cc
first_meant (column ∷ columns) [] reference first found rest e =
    let later : (number : ℕ) × (found.0 ≡ first + number) = counted (column ∷ columns) first e in
    (later.0, later.1, sym (none_at later.0))
  where
    head_same : (x y : ℕ × Kind) (xs ys : List (ℕ × Kind)) → x ∷ xs ≡ y ∷ ys → x ≡ y
    head_same x y xs ys e = cc

    counted : (columns : List Visible) (first : ℕ) → referred_from first columns reference ≡ found ∷ rest
        → (number : ℕ) × (found.0 ≡ first + number)
    counted [] first e = cc
    counted (column ∷ columns) first e =
        elim (refers_to reference column.column) as (λ b.
        (if b then ((first, column.kind) ∷ referred_from (suc first) columns reference) else referred_from
        (suc first) columns reference) ≡ found ∷ rest
        → (number : ℕ) × (found.0 ≡ first + number)) [
          | true ↦ λ here. (
            0,
            (let same = ap (λ (x : ℕ × Kind). x.0) (head_same (first, column.kind) found _ _ here)
                in omega arith),
          )
          | false ↦ λ later. let w = counted columns (suc first) later in (suc w.0, (let same = w.1 in omega arith))
        ] e
first_meant (column ∷ columns) (value ∷ row) reference first found rest e =
    by (refers_to reference column.column) e (λ later. first_meant columns row reference (suc first) found rest later)
  where
    head_same : (x y : ℕ × Kind) (xs ys : List (ℕ × Kind)) → x ∷ xs ≡ y ∷ ys → x ≡ y
    head_same x y xs ys e = cc

    by : (b : Bool)
        → (if b then ((first, column.kind) ∷ referred_from (suc first) columns reference) else referred_from
        (suc first) columns reference) ≡ found ∷ rest
        → (referred_from (suc first) columns reference ≡ found ∷ rest → (number : ℕ) × (found.0 ≡ suc first + number)
        × (column_value (map name_of columns) row reference ≡ slice_index_or row number no_value))
        → (number : ℕ) × (found.0 ≡ first + number)
        × ((if b then value else column_value (map name_of columns) row reference)
        ≡ slice_index_or (value ∷ row) number no_value)
    by true here later = (
      0,
      (let same = ap (λ (x : ℕ × Kind). x.0) (head_same (first, column.kind) found _ _ here) in omega arith),
      refl,
    )
    by false here later = let w = later here in (suc w.0, (let same = w.1 in omega arith), w.2)

one_meant : (all : List (ℕ × Kind)) (place : ℕ) (found : ℕ × Kind) → only_one all place ≡ Ok found → all ≡ found ∷ []
one_meant [] place found e = cc
one_meant (x ∷ []) place found e = ap (λ (y : ℕ × Kind). y ∷ []) (one_answer x found e)
one_meant (x ∷ y ∷ more) place found e = cc

column_same : (scope : Scope) (row : List Value) (reference : ColumnReference) (found : ℕ × Kind)
    → column_in scope reference ≡ Ok found
    → column_value (map name_of scope.columns) row reference ≡ slice_index_or row found.0 no_value
column_same scope row reference found e =
    let all = referred_from 0 scope.columns reference in
    let one = unqualified scope.names reference.qualifier (only_one all reference.column.place) found e in
    let w = first_meant scope.columns row reference 0 found [] (one_meant all reference.column.place found one) in
    let same : w.0 ≡ found.0 = let c = w.1 in omega arith in
    w.2 ∙ ap (λ n. slice_index_or row n no_value) same

-- ---- operands, tests and items

module _ (environment : Environment) (bound : Bound) (scope : Scope) where
  abbrev pub said : List Value → TreeOperand → Value
  said row operand = operand_value environment (map name_of scope.columns) row operand

  abbrev pub meant : List Value → Operand Known → Value
  meant row operand = operand_worth (known_worth environment) row operand

  pub operand_same : (row : List Value) (operand : TreeOperand) (found : Operand Known × Kind)
      → operand_in scope bound operand ≡ Ok found → said row operand ≡ meant row found.0
  operand_same row (operands.Value value) found e =
      let w = found_of (value_in bound value) _ found e in
      value_same environment bound value w.0 w.1
      ∙ ap (λ (found : Operand Known × Kind). meant row found.0) (one_answer _ found w.2)
  operand_same row (operands.Column reference) found e =
      let w = found_of (column_in scope reference) _ found e in
      column_same scope row reference w.0 w.1
      ∙ ap (λ (found : Operand Known × Kind). meant row found.0) (one_answer _ found w.2)

  test_same : (row : List Value) (test : Test TreeOperand) (form : Test (Operand Known))
      → test_in (operands_in scope bound) test ≡ Ok form → holds (said row) test ≡ holds (meant row) form
  unfolding test_in
  test_same row test form e =
      let left = found_of (operand_in scope bound test.left) _ form e in
      let right = found_of (operand_in scope bound test.right) _ form left.2 in
      let kept = demand_given (same_kind left.0.1 right.0.1) (WrongKind (operand_place test.right)) _ form right.2 in
      (λ i. compares test.comparison (value_cmp (operand_same row test.left left.0 left.1 i)
      (operand_same row test.right right.0 right.1 i)))
      ∙ ap (λ (form : Test (Operand Known)). holds (meant row) form) (one_answer _ form kept.1)

  and_assoc : (a b c : Bool) → ((a && b) && c) ≡ (a && (b && c))
  and_assoc true b c = refl
  and_assoc false b c = refl

  and_true : (a : Bool) → (a && true) ≡ a
  and_true true = refl
  and_true false = refl

  all_behind : {A : Type 0} (p : A → Bool) (xs : List A) (y : A) → list_all p (xs ++ y ∷ []) ≡ (list_all p xs && p y)
  all_behind p [] y = and_true (p y)
  all_behind p (x ∷ xs) y = ap (λ b. p x && b) (all_behind p xs y) ∙ sym (and_assoc (p x) (list_all p xs) (p y))

  tests_same : (row : List Value) (tests : List (Test TreeOperand)) (made forms : List (Test (Operand Known)))
      → tests_from (operands_in scope bound) made tests ≡ Ok forms
      → meets meant forms row ≡ (meets meant made row && meets said tests row)
  tests_same row [] made forms e =
      ap (λ xs. meets meant xs row) (sym (one_answer made forms e)) ∙ sym (and_true (meets meant made row))
  tests_same row (test ∷ more) made forms e =
      let w = found_of (test_in (operands_in scope bound) test) _ forms e in
      tests_same row more (made ++ w.0 ∷ []) forms w.2
      ∙ ap (λ b. b && meets said more row) (all_behind (holds (meant row)) made w.0)
      ∙ and_assoc (meets meant made row) (holds (meant row) w.0) (meets said more row)
      ∙ ap (λ b. meets meant made row && (b && meets said more row)) (sym (test_same row test w.0 w.1))

  pub where_same : (row : List Value) (tests : List (Test TreeOperand)) (forms : List (Test (Operand Known)))
      → tests_in scope bound tests ≡ Ok forms → meets said tests row ≡ meets meant forms row
  unfolding tests_in
  where_same row tests forms e = sym (tests_same row tests [] forms e)

  listed_same : (row : List Value) (listed : List TreeOperand) (shown out : Shown)
      → items_from (operands_in scope bound) shown listed ≡ Ok out
      → map (meant row) out.0 ≡ map (meant row) shown.0 ++ map (said row) listed
  listed_same row [] shown out e =
      ap (λ (s : Shown). map (meant row) s.0) (sym (one_answer shown out e))
      ∙ sym (append-nil (map (meant row) shown.0))
  listed_same row (item ∷ more) shown out e =
      let w = found_of (operand_in scope bound item) _ out e in
      listed_same row more (with_item shown w.0) out w.2
      ∙ ap (λ xs. xs ++ map (said row) more) (map-append (meant row) shown.0 (w.0.0 ∷ []))
      ∙ append_assoc (map (meant row) shown.0) (meant row w.0.0 ∷ []) (map (said row) more)
      ∙ ap (λ x. map (meant row) shown.0 ++ x ∷ map (said row) more) (sym (operand_same row item w.0 w.1))

  -- the columns from a number on show the values from that number on
  columns_shown : (before row : List Value) (columns : List Visible) (first : ℕ) → length before ≡ first → length row
      ≡ length columns
      → map (meant (before ++ row)) (columns_from first columns) ≡ row
  columns_shown before [] [] first is l = refl
  columns_shown before [] (column ∷ columns) first is l = absurd (omega arith)
  columns_shown before (value ∷ row) [] first is l = absurd (omega arith)
  columns_shown before (value ∷ row) (column ∷ columns) first is l =
      let longer : length (before ++ value ∷ []) ≡ suc first = omega (arith, length-append before (value ∷ [])) in
      let here : slice_index_or (before ++ value ∷ row) first no_value
      ≡ value = get_or_at before value row no_value first is in
      let rest : map (meant ((before ++ value ∷ []) ++ row)) (columns_from (suc first) columns) ≡ row =
      columns_shown (before ++ value ∷ []) row columns (suc first) longer (omega arith) in
      λ i. here i ∷ (ap (λ (r : List Value). map (meant r) (columns_from (suc first) columns))
      (sym (append_assoc before (value ∷ []) row)) ∙ rest) i

  pub items_same : (row : List Value) (all : Items) (out : Shown) → length row ≡ length scope.columns
      → items_in scope bound all ≡ Ok out → item_row said all row ≡ map (meant row) out.0
  items_same row items.All out l e =
      sym (columns_shown [] row scope.columns 0 refl l)
      ∙ ap (λ (s : Shown). map (meant row) s.0) (one_answer (all_shown scope) out e)
  items_same row (items.Listed listed) out l e = sym (listed_same row listed ([], []) out e)

-- ---- the whole SELECT

module _ (creates : List Create) (tables : Tables) (fitting : AreWide creates tables) (environment : Environment) where
  pub select_same : (bound : Bound) (select : TreeSelect) (form : Select Known) (kinds : List Kind)
      → select_in (schemas_of creates) bound select ≡ Ok (form, kinds)
      → select_rows creates (database_of creates tables) environment select
      ≡ form_rows (known_worth environment) tables form
  unfolding select_in
  select_same bound select form kinds e =
      let found = found_of (sources_in (schemas_of creates) select.sources) _ (form, kinds) e in
      let scope = found.0 in
      let tests = found_of (tests_in scope bound select.tests) _ (form, kinds) found.2 in
      let shown = found_of (items_in scope bound select.items) _ (form, kinds) tests.2 in
      let seen = sources_seen creates tables fitting select.sources no_source scope found.1 in
      let made : record { sources = scope.tables; items = shown.0.0; tests = tests.0 } ≡ form =
      ap (λ (both : Select Known × List Kind). both.0) (one_answer _ (form, kinds) shown.2) in
      let wide : AllByRecursion (λ row. length row ≡ length scope.columns)
      (combinations (map (λ source. database_of creates tables source.table.name) select.sources)) =
      subst (λ n. AllByRecursion (λ row. length row ≡ n)
      (combinations (map (λ source. database_of creates tables source.table.name) select.sources)))
      (let t = seen.counted in omega arith) (combinations_wide _ seen.widths seen.wide) in
      ap (λ columns. selection (meets (operand_value environment columns) select.tests)
      (item_row (operand_value environment columns) select.items)
      (map (λ source. database_of creates tables source.table.name) select.sources)) (sym seen.columns)
      ∙ selected_alike (length scope.columns)
      (meets (said environment bound scope) select.tests) (meets (meant environment bound scope) tests.0)
      (item_row (said environment bound scope) select.items) (λ row. map (meant environment bound scope row) shown.0.0)
      (λ row l. where_same environment bound scope row select.tests tests.0 tests.1)
      (λ row l. items_same environment bound scope row select.items shown.0 l shown.1)
      (map (λ source. database_of creates tables source.table.name) select.sources) wide
      ∙ ap (selection (meets (meant environment bound scope) tests.0)
      (λ row. map (meant environment bound scope row) shown.0.0)) (sym seen.rows)
      ∙ ap (form_rows (known_worth environment) tables) made
