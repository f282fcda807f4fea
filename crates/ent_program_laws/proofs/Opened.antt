-- An opening that can be told begins with rows that can be told.
use Rattle.std.proofs.Common.{◌≡◌, true, false, List, [], map, sym, ap, subst, ◌∙◌, arith}
use Rattle.std.proofs.Common.{None}
use Rattle.std.specs.List.{filter}
use Rattle.std.proofs.lemmas.List.{length-map}
use Rattle.ent_lists.specs.Sets as set
use Rattle.ent_value.specs.Value.{kinds_of, row_cmp}
use Rattle.ent_value.specs.declared.value.Value.{Value}
use Rattle.ent_tree.specs.declared.declaration.Column.{Column}
use Rattle.ent_tree.specs.declared.declaration.Create.{Create}
use Rattle.ent_tree.specs.declared.declaration.Opening.{Opening}
use Rattle.ent_tree.specs.declared.declaration.OpeningRow.{OpeningRow}
use Rattle.ent_form.specs.Catalogue.{schemas_of}
use Rattle.ent_form.specs.OpeningFault.{declarations_fault, first_of, opening_row_fault}
use Rattle.ent_history.specs.Told.{opening_row}
use Rattle.ent_history.specs.Parts.{IsRow}
use Rattle.ent_form.proofs.ResolvedSteps.{nothing_first}
use Rattle.ent_history.specs.Formed.{is_declared}
use Rattle.ent_lists.specs.Elements.{In, any_in, clash, contains_in, filter_empty, in_flat, index_pairs, not_so}
use Rattle.ent_lists.specs.Elements.{of_all, of_map, shorter}
use Rattle.ent_lists.specs.Laws.{len-from_list}
use Rattle.ent_value.specs.Order.{exact_rows, rows_total}
use Rattle.ent_semantics.specs.Database.{Name, opening_database, row_of, same_name, rows_named}
use Rattle.ent_semantics.proofs.EachRow.{each_listed}
use Rattle.ent_report_laws.specs.Tellable.{AreRowsOf, IsOpeningTold}
use Rattle.ent_report_laws.proofs.Faultless.{opening_faultless}
use Rattle.ent_report_laws.proofs.Opened.{Before, names_it}
use Rattle.ent_program_laws.specs.Held.{HoldsRowsOf}

module _ (opening : Opening) (told : IsOpeningTold opening) where
  pub tables_faultless : declarations_fault [] opening.tables ≡ None
  tables_faultless =
      nothing_first (declarations_fault [] opening.tables)
      (first_of (opening_row_fault (schemas_of opening.tables)) [])
      (opening_faultless (record { tables = opening.tables; rows = [] }) (record {
        apart = index_pairs Before opening.tables told.rise;
        declarations = told.declarations;
        rows = tt;
      }))

  -- each row stands in a table that is declared
  row_declared : (row : OpeningRow) → In row opening.rows → (name : Name) → names_it name row ≡ true
      → is_declared opening.tables name ≡ true
  row_declared row at name same =
      let of_table : Create → List OpeningRow = λ create.
      map (opening_row create.name.name) (rows_named opening create.name.name) in
      let found = in_flat of_table opening.tables row
      (subst (λ (rows : List OpeningRow). In row rows) told.in_order at) in
      let values = of_map (opening_row found.0.name.name) (rows_named opening found.0.name.name) row found.2 in
      let named = ap (λ (r : OpeningRow). r.table.name) values.2 in
      any_in (λ (create : Create). same_name create.name.name name) opening.tables found.0 found.1
      (ap (λ (n : Name). same_name n name) (sym named) ∙ same)

  nothing_under : (name : Name) → is_declared opening.tables name ≡ false → opening_database opening name ≡ set.empty
  nothing_under name undeclared =
      ap (λ (rows : List OpeningRow). set.from_list {R = row_cmp} (map row_of rows))
      (filter_empty (names_it name) opening.rows (λ row at.
      not_so (names_it name row) (λ same.
      clash (is_declared opening.tables name) (row_declared row at name same) undeclared)))

  pub opening_holds_rows : HoldsRowsOf opening.tables (opening_database opening)
  opening_holds_rows = record {
    rows = λ create there row has.
        each_listed (λ (row : List Value). IsRow row
        × (kinds_of row ≡ map (λ (column : Column). column.kind) create.columns))
        (rows_named opening create.name.name)
        (of_all (λ (create : Create). AreRowsOf create.columns (rows_named opening create.name.name)) opening.tables
        create told.rows (contains_in opening.tables create there)).0 row has;
    few = λ create there.
        let named = filter (names_it create.name.name) opening.rows in
        omega (
          arith,
          len-from_list rows_total exact_rows (map row_of named),
          length-map named row_of,
          shorter (names_it create.name.name) opening.rows,
          told.few_rows,
        );
    others = nothing_under;
  }
