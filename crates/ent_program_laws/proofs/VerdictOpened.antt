-- An opening that a history tells is told so again.
use Rattle.std.proofs.Common.{◌≡◌, Bool, cond, List, [], ◌∷◌, ◌++◌, map, refl, sym, ap, subst, ◌∙◌, inl, inr}
use Rattle.std.specs.Cmp.Lexicographic.{slice_cmp}
use Rattle.std.specs.List.{AllByRecursion, flat_map}
use Rattle.std.specs.List.Sorted.{IsStrictlySortedBy}
use Rattle.std.specs.Ordering.{nat_cmp}
use Rattle.std.specs.declared.cmp.Ordering.{Ordering}
use Rattle.std.specs.declared.cmp.Ordering.TheVariants.{Less}
use Rattle.std.proofs.lemmas.Cmp.{nat_list_cmp_total}
use Rattle.std.proofs.lemmas.Map.Lookups.{exact_bytes}
use Rattle.ent_lists.specs.Laws.{ascending-from_list, is_sorted_from}
use Rattle.ent_value.specs.Value.{kinds_of}
use Rattle.ent_value.specs.declared.value.Value.{Value}
use Rattle.ent_tree.specs.declared.declaration.Column.{Column}
use Rattle.ent_tree.specs.declared.declaration.Create.{Create}
use Rattle.ent_tree.specs.declared.declaration.Opening.{Opening}
use Rattle.ent_tree.specs.declared.declaration.OpeningRow.{OpeningRow}
use Rattle.ent_semantics.specs.Database.{Name, row_of, rows_named, same_name}
use Rattle.ent_semantics.specs.Names.{name_itself}
use Rattle.ent_book.specs.Report.{names_by_bytes}
use Rattle.ent_history.specs.Told.{declared_under, opening_row, told_opening, told_rows}
use Rattle.ent_history.specs.Opening.{IsDeclaration}
use Rattle.ent_history.specs.Parts.{IsName, IsRow, IsValue}
use Rattle.ent_lists.specs.Elements.{In, Pairs, all_by, in_flat, index_pairs, of_all, of_map, pairs_map, to_all}
use Rattle.ent_report_laws.specs.Read.{IsOpeningRead, IsTableRead}
use Rattle.ent_report_laws.specs.Tellable.{AreRowsOf, IsOpeningTold}
use Rattle.ent_report_laws.proofs.Opened.{Before, other_name, row_again}
use Rattle.ent_report_laws.proofs.Shown.{IsBelow, ascending_rows}

-- ---- names

abbrev pub name_of : Create → Name
name_of create = create.name.name

abbrev name_cmp : Name → Name → Ordering
name_cmp = slice_cmp nat_cmp

sorted : {K : Type 0} (R : K → K → Ordering) (keys : List K) → Pairs (λ key other. R key other ≡ Less) keys
    → IsStrictlySortedBy R keys
unfolding IsStrictlySortedBy
sorted R [] pairs = tt
sorted R (key ∷ keys) pairs = (pairs.0, sorted R keys pairs.1)

module _ (opening : Opening) (told : IsOpeningTold opening) where
  rising : Pairs Before opening.tables
  rising = index_pairs Before opening.tables told.rise

  -- the names by bytes are those of the tables, in their order
  pub names_are : names_by_bytes opening ≡ map name_of opening.tables
  names_are =
      ascending-from_list nat_list_cmp_total exact_bytes (map name_of opening.tables)
      (is_sorted_from name_cmp (map name_of opening.tables)
      (sorted name_cmp (map name_of opening.tables)
      (pairs_map name_of (λ name other. name_cmp name other ≡ Less) opening.tables rising)))

-- ---- tables

own_under : (tables : List Create) → Pairs Before tables → (create : Create) → In create tables
    → declared_under tables create.name.name ≡ create ∷ []
own_under [] apart create at = absurd at
own_under (first ∷ more) apart create (inl same) =
    ap (λ (b : Bool). cond b (first ∷ []) (declared_under more create.name.name))
    (ap (λ (c : Create). same_name first.name.name c.name.name) same ∙ name_itself first.name.name)
    ∙ ap (λ (c : Create). c ∷ []) (sym same)
own_under (first ∷ more) apart create (inr at) =
    ap (λ (b : Bool). cond b (first ∷ []) (declared_under more create.name.name))
    (other_name first create (of_all (Before first) more create apart.0 at))
    ∙ own_under more apart.1 create at

tables_again : (tables more : List Create)
    → ((create : Create) → In create more → declared_under tables create.name.name ≡ create ∷ [])
    → flat_map (declared_under tables) (map name_of more) ≡ more
tables_again tables [] own = refl
tables_again tables (create ∷ more) own =
    λ i. own create (inl refl) i ++ tables_again tables more (λ other at. own other (inr at)) i

-- ---- rows

abbrev rows_under : Opening → Create → List OpeningRow
rows_under opening create = map (opening_row create.name.name) (rows_named opening create.name.name)

each_again : (opening : Opening) (more : List Create)
    → ((create : Create) → In create more → told_rows opening create.name.name ≡ rows_under opening create)
    → flat_map (told_rows opening) (map name_of more) ≡ flat_map (rows_under opening) more
each_again opening [] own = refl
each_again opening (create ∷ more) own =
    λ i. own create (inl refl) i ++ each_again opening more (λ other at. own other (inr at)) i

module _ (opening : Opening) (told : IsOpeningTold opening) where
  -- a row of the kinds of a table's columns
  abbrev IsRowOf : Create → List Value → Type 0
  IsRowOf create row = IsRow row × (kinds_of row ≡ map (λ column. column.kind) create.columns)

  abbrev HasRows : Create → Type 0
  HasRows create = AreRowsOf create.columns (rows_named opening create.name.name)

  rows_again : (create : Create) → In create opening.tables
      → told_rows opening create.name.name ≡ rows_under opening create
  rows_again create at =
      let rows = rows_named opening create.name.name in
      ap (map (opening_row create.name.name))
      (ascending_rows rows (index_pairs IsBelow rows (of_all HasRows opening.tables create told.rows at).1))

  pub opening_again : told_opening opening ≡ opening
  opening_again = λ i. record { tables = tables i; rows = rows i }
    where
      tables : flat_map (declared_under opening.tables) (names_by_bytes opening) ≡ opening.tables
      tables =
          ap (flat_map (declared_under opening.tables)) (names_are opening told)
          ∙ tables_again opening.tables opening.tables (own_under opening.tables (rising opening told))

      rows : flat_map (told_rows opening) (names_by_bytes opening) ≡ opening.rows
      rows =
          ap (flat_map (told_rows opening)) (names_are opening told)
          ∙ each_again opening opening.tables rows_again
          ∙ sym told.in_order

  -- ---- such an opening as an input has

  table_read : (create : Create) → IsDeclaration create → IsTableRead create
  table_read create is = record {
    name = is.name;
    some = is.some;
    few = is.few;
    columns = all_by (λ (column : Column). IsName column.name.name × (column.name.place ≡ 0))
        (λ column. IsName column.name.name) create.columns (λ column own. own.0) is.columns;
  }

  row_read : (row : OpeningRow) → In row opening.rows → AllByRecursion IsValue (row_of row)
  row_read row at =
      let found = in_flat (rows_under opening) opening.tables row (subst (In row) told.in_order at) in
      let rows = rows_named opening found.0.name.name in
      let own = of_map (opening_row found.0.name.name) rows row found.2 in
      let is = of_all (IsRowOf found.0) rows own.0 (of_all HasRows opening.tables found.0 told.rows found.1).0 own.1 in
      subst (AllByRecursion IsValue) (sym (ap row_of own.2 ∙ row_again found.0.name.name own.0)) is.0.1

  pub opening_read : IsOpeningRead opening
  opening_read = record {
    few_tables = told.few_tables;
    few_rows = told.few_rows;
    tables = all_by IsDeclaration IsTableRead opening.tables table_read told.declarations;
    values = to_all (λ row. AllByRecursion IsValue (row_of row)) opening.rows row_read;
  }
