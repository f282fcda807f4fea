-- The opening that a report shows can be told.
use Rattle.std.proofs.Common.{◌≡◌, ◌≢◌, ◌≤◌, Bool, true, false, cond, ◌||◌, List, [], ◌∷◌, ◌++◌, length, map, refl, sym}
use Rattle.std.proofs.Common.{ap, subst, ◌∙◌, arith, inl, inr, None, AllPairs}
use Rattle.std.specs.List.{AllByRecursion, flat_map}
use Rattle.std.specs.declared.cmp.Ordering.TheVariants.{Less}
use Rattle.std.proofs.lemmas.List.{append-nil}
use Rattle.std.proofs.lemmas.List.Concat.{flat_map-append}
use Rattle.std.proofs.lemmas.List.Folds.{list_any-append}
use Rattle.ent_lists.specs.Sets as set
use Rattle.ent_value.specs.Value.{kinds_of, row_cmp}
use Rattle.ent_value.specs.declared.value.Value.{Value}
use Rattle.ent_tree.specs.declared.declaration.Column.{Column}
use Rattle.ent_tree.specs.declared.declaration.Create.{Create}
use Rattle.ent_tree.specs.declared.declaration.Opening.{Opening}
use Rattle.ent_tree.specs.declared.declaration.OpeningRow.{OpeningRow}
use Rattle.ent_tree.specs.declared.operand.Identifier.{Identifier}
use Rattle.ent_rel.proofs.Keyed.{rows_ascend}
use Rattle.ent_semantics.specs.Kinds.{RowsHaveKinds}
use Rattle.ent_semantics.specs.Names.{name_itself}
use Rattle.ent_form.specs.OpeningFault.{opening_fault, refused_where, repeated}
use Rattle.ent_form.specs.declared.fault.FormFault.TheVariants.{Repeated}
use Rattle.ent_form.specs.TableKinds.{AreKinded, column_kinds}
use Rattle.ent_form.specs.Opened.{opening_tables}
use Rattle.ent_form.proofs.NamesApart.{schema_kinds}
use Rattle.ent_form.proofs.ResolvedSteps.{not_refused}
use Rattle.ent_book.specs.Report.{names_by_bytes}
use Rattle.ent_history.specs.Told.{declared_under, opening_row, told_opening, told_rows}
use Rattle.ent_history.specs.Opening.{IsDeclaration}
use Rattle.ent_history.specs.Parts.{IsName, IsRow, IsValue}
use Rattle.ent_report_laws.specs.Tellable.{AreRowsOf, IsOpeningTold}
use Rattle.ent_history.specs.Formed.{is_declared}
use Rattle.ent_lists.specs.Elements.{In, Pairs, any_in, in_flat, neither, of_all, pairs_before, pairs_index, to_all}
use Rattle.ent_lists.specs.Elements.{rise}
use Rattle.ent_semantics.specs.Database.{Name, opening_database, row_of, same_name, is_among, rows_named}
use Rattle.ent_form.specs.Catalogue.{schemas_of, table_schema}
use Rattle.ent_report_laws.specs.Read.{AreUnplaced, IsOpeningRead, IsTableRead, IsUnplaced}
use Rattle.ent_report_laws.proofs.Counted.{few_rows, few_tables}
use Rattle.ent_report_laws.proofs.OpeningDeclared.{Rises, named, names_rise, one_under, tables_rise, under_is}
use Rattle.ent_report_laws.proofs.OpeningFaultless.{HasColumnsOnce, both_before, columns_once}
use Rattle.ent_report_laws.proofs.Rows.{row_itself, row_stands, rows_shown}

-- ---- names of columns

abbrev AreOthers : Identifier → Identifier → Type 0
AreOthers first second = same_name first.name second.name ≡ false

new_behind : (earlier : List Name) (name : Name) (identifiers : List Identifier)
    → AllByRecursion (λ identifier. is_among (earlier ++ name ∷ []) identifier.name ≡ false) identifiers
    → AllByRecursion (λ identifier. is_among earlier identifier.name ≡ false) identifiers
    × AllByRecursion (λ identifier. same_name name identifier.name ≡ false) identifiers
new_behind earlier name [] new = (tt, tt)
new_behind earlier name (identifier ∷ more) new =
    let apart : (is_among earlier identifier.name || (same_name name identifier.name || false)) ≡ false =
    sym (list_any-append (λ other. same_name other identifier.name) earlier (name ∷ [])) ∙ new.0 in
    let differ = neither (is_among earlier identifier.name) (same_name name identifier.name || false) apart in
    let rest = new_behind earlier name more new.1 in (
      (differ.0, rest.0),
      ((neither (same_name name identifier.name) false differ.1).0, rest.1),
    )

none_again : (earlier : List Name) (identifiers : List Identifier) → repeated earlier identifiers ≡ None
    → AllByRecursion (λ identifier. is_among earlier identifier.name ≡ false) identifiers
    × Pairs AreOthers identifiers
none_again earlier [] e = (tt, tt)
none_again earlier (identifier ∷ more) e =
    let both = both_before (refused_where (is_among earlier identifier.name) (Repeated identifier.place))
    (repeated (earlier ++ identifier.name ∷ []) more) e in
    let rest = none_again (earlier ++ identifier.name ∷ []) more both.1 in
    let behind = new_behind earlier identifier.name more rest.0 in (
      (not_refused (is_among earlier identifier.name) (Repeated identifier.place) both.0, behind.0),
      (behind.1, rest.1),
    )

differ : (first second : Identifier) → AreOthers first second → first.name ≢ second.name
differ first second others same =
    absurd (apart (sym (ap (λ (n : Name). same_name n second.name) same ∙ name_itself second.name) ∙ others))
  where
    apart : true ≡ false → ⊥
    apart e = cc

columns_apart : (create : Create) → HasColumnsOnce create
    → AllPairs (λ (first second : Column). first.name.name ≢ second.name.name) create.columns
columns_apart create e =
    pairs_index (λ (first second : Column). first.name.name ≢ second.name.name) create.columns
    (pairs_before (λ (column : Column). column.name) AreOthers
    (λ (first second : Column). first.name.name ≢ second.name.name)
    (λ first second. differ first.name second.name) create.columns
    (none_again [] (map (λ column. column.name) create.columns) e).1)

-- ---- rows

kinded_at : (opening : Opening) (creates : List Create)
    → AreKinded (schemas_of creates)
    (map (λ create. set.from_list {R = row_cmp} (rows_named opening create.name.name)) creates)
    → (create : Create) → In create creates
    → RowsHaveKinds (column_kinds (table_schema create)) (opening_database opening create.name.name)
kinded_at opening [] kinded create at = absurd at
kinded_at opening (other ∷ more) kinded create (inl same) =
    subst (λ (c : Create). RowsHaveKinds (column_kinds (table_schema c)) (opening_database opening c.name.name))
    (sym same) kinded.0
kinded_at opening (other ∷ more) kinded create (inr at) = kinded_at opening more kinded.1 create at

some_values : (columns : List Column) (row : List Value) → 1 ≤ length columns
    → kinds_of row ≡ map (λ column. column.kind) columns → row ≢ []
some_values [] row some e none = absurd (omega (arith, some))
some_values (column ∷ columns) row some e none = apart (sym (ap kinds_of none) ∙ e)
  where
    apart : [] ≡ column.kind ∷ map (λ column. column.kind) columns → ⊥
    apart e = cc

both_of : {A : Type 0} (P Q : A → Type 0) (xs : List A) → AllByRecursion P xs → AllByRecursion Q xs
    → AllByRecursion (λ x. P x × Q x) xs
both_of P Q [] p q = tt
both_of P Q (x ∷ xs) p q = ((p.0, q.0), both_of P Q xs p.1 q.1)

module _ (opening : Opening) (read : IsOpeningRead opening) (unplaced : AreUnplaced opening.tables)
    (faultless : opening_fault opening ≡ None)
    (kinded : AreKinded (schemas_of opening.tables) (opening_tables opening)) where
  abbrev told : Opening
  told = told_opening opening

  -- a table that is shown is declared, under a name of those that are
  shown_is : (create : Create) → In create told.tables
      → In create opening.tables × In create.name.name (names_by_bytes opening)
  shown_is create at =
      let found = in_flat (declared_under opening.tables) (names_by_bytes opening) create at in
      let is = under_is opening.tables found.0 create found.2 in
      (is.0, subst (λ (n : Name). In n (names_by_bytes opening)) (sym is.1) found.1)

  name_declared : (name : Name) → In name (names_by_bytes opening) → is_declared opening.tables name ≡ true
  name_declared name at =
      sym (named opening name)
      ∙ any_in (λ other. same_name other name) (names_by_bytes opening) name at (name_itself name)

  shown_rows : (name : Name) → In name (names_by_bytes opening)
      → rows_named told name ≡ set.ascending (opening_database opening name)
  shown_rows name at =
      rows_shown opening name
      ∙ ap (λ (b : Bool). cond b (set.ascending (opening_database opening name)) []) (name_declared name at)

  -- ---- tables

  declaration : (create : Create) → In create told.tables → IsDeclaration create
  declaration create at =
      let there = (shown_is create at).0 in
      let table = of_all IsTableRead opening.tables create read.tables there in
      let without = of_all IsUnplaced opening.tables create unplaced there in
      record {
        name = table.name;
        unplaced = without.table;
        some = table.some;
        few = table.few;
        columns = both_of (λ (column : Column). IsName column.name.name) (λ (column : Column). column.name.place ≡ 0)
            create.columns table.columns without.columns;
        distinct = columns_apart create
            (of_all HasColumnsOnce opening.tables create (columns_once opening faultless) there);
      }

  -- ---- rows

  abbrev own_rows : Create → List OpeningRow
  own_rows create = map (opening_row create.name.name) (rows_named told create.name.name)

  rows_here : (name : Name) → In name (names_by_bytes opening)
      → told_rows opening name ≡ flat_map own_rows (declared_under opening.tables name)
  rows_here name at =
      let found = one_under opening.tables name (name_declared name at) in
      sym (ap (flat_map own_rows) found.1
      ∙ append-nil (own_rows found.0)
      ∙ ap (λ (n : Name). map (opening_row n) (rows_named told n)) found.2
      ∙ ap (map (opening_row name)) (shown_rows name at))

  rows_in_order : (names : List Name) → ((name : Name) → In name names → In name (names_by_bytes opening))
      → flat_map (told_rows opening) names ≡ flat_map own_rows (flat_map (declared_under opening.tables) names)
  rows_in_order [] among = refl
  rows_in_order (name ∷ names) among =
      let rest = rows_in_order names (λ other at. among other (inr at)) in
      let here = rows_here name (among name (inl refl)) in
      (λ i. here i ++ rest i)
      ∙ sym (flat_map-append own_rows (declared_under opening.tables name)
      (flat_map (declared_under opening.tables) names))

  rows_fit : (create : Create) → In create told.tables
      → AreRowsOf create.columns (rows_named told create.name.name)
  rows_fit create at =
      let is = shown_is create at in
      let rows : set.Set row_cmp = opening_database opening create.name.name in
      let table = of_all IsTableRead opening.tables create read.tables is.0 in
      subst (AreRowsOf create.columns) (sym (shown_rows create.name.name is.1)) (
        to_all (λ row. IsRow row × (kinds_of row ≡ map (λ column. column.kind) create.columns)) (set.ascending rows)
            (λ row there.
            let contained = row_itself rows row there in
            let kinds : kinds_of row ≡ map (λ column. column.kind) create.columns =
            kinded_at opening opening.tables kinded create is.0 row contained ∙ schema_kinds create.columns in
            let stands = row_stands opening create.name.name row contained in
            let values : AllByRecursion IsValue row =
            subst (AllByRecursion IsValue) (sym stands.is) (of_all
            (λ (row : OpeningRow). AllByRecursion IsValue (row_of row)) opening.rows stands.one read.values stands.at)
            in
            ((some_values create.columns row table.some kinds, values), kinds)),
        pairs_index (λ (row other : List Value). row_cmp row other ≡ Less) (set.ascending rows)
            (rise row_cmp (set.ascending rows) (rows_ascend rows)),
      )

  pub opening_is_told : IsOpeningTold told
  opening_is_told =
      let fewer_tables = few_tables opening in
      let fewer_rows = few_rows opening in
      let most_tables = read.few_tables in
      let most_rows = read.few_rows in
      record {
        few_tables = omega (arith, fewer_tables, most_tables);
        few_rows = omega (arith, fewer_rows, most_rows);
        declarations = to_all IsDeclaration told.tables declaration;
        rise = pairs_index Rises told.tables
            (tables_rise opening.tables (names_by_bytes opening) (names_rise opening));
        in_order = rows_in_order (names_by_bytes opening) (λ name at. at);
        rows = to_all (λ create. AreRowsOf create.columns (rows_named told create.name.name)) told.tables rows_fit;
      }
