-- The rows that a report shows at first: the same ones under each name.
use Rattle.std.proofs.Common.{◌≡◌, Bool, true, false, cond, ◌||◌, List, [], ◌∷◌, ◌++◌, map, refl, sym, ap, ◌∙◌}
use Rattle.std.proofs.Common.{None}
use Rattle.std.specs.Cmp.{Equal-is}
use Rattle.std.specs.List.{AllByRecursion, filter, flat_map}
use Rattle.std.specs.Ordering.{eq_by_cmp}
use Rattle.std.proofs.lemmas.List.{append-nil}
use Rattle.ent_lists.specs.Sets as set
use Rattle.ent_lists.specs.Laws.{contains-ascending, contains-from_list, from_list-ascending}
use Rattle.ent_value.specs.Order.{exact_rows, rows_equal, rows_total}
use Rattle.ent_value.specs.Value.{row_cmp}
use Rattle.ent_value.specs.declared.value.Value.{Value}
use Rattle.ent_tree.specs.declared.declaration.Opening.{Opening}
use Rattle.ent_tree.specs.declared.declaration.OpeningRow.{OpeningRow}
use Rattle.ent_semantics.specs.Names.{equal_names, names_turned}
use Rattle.ent_book.specs.Report.{names_by_bytes}
use Rattle.ent_form.specs.OpeningFault.{opening_fault}
use Rattle.ent_history.specs.Told.{opening_row, told_opening, told_rows}
use Rattle.ent_history.specs.Formed.{is_declared}
use Rattle.ent_history.proofs.Opened.{rows_again}
use Rattle.ent_lists.specs.Elements.{In, Pairs, any_in, any_some, clash, filter_empty, filter_joined, filter_whole}
use Rattle.ent_lists.specs.Elements.{not_so, of_all, of_filter, of_map}
use Rattle.ent_semantics.specs.Database.{Name, opening_database, row_of, same_name, is_among, rows_named}
use Rattle.ent_report_laws.proofs.Opened.{names_it}
use Rattle.ent_report_laws.specs.Alike.{AreAlike}
use Rattle.ent_report_laws.proofs.OpeningDeclared.{named, names_apart, tables_told}

-- ---- rows of some tables

module _ (rows : Name → List (List Value)) (name : Name) where
  abbrev rows_of : Name → List OpeningRow
  rows_of other = map (opening_row other) (rows other)

  all_or_none : (other : Name) (b : Bool) → same_name other name ≡ b
      → filter (names_it name) (rows_of other) ≡ cond b (rows_of other) []
  all_or_none other true e =
      filter_whole (names_it name) (rows_of other) (λ row at.
      ap (names_it name) (of_map (opening_row other) (rows other) row at).2 ∙ e)
  all_or_none other false e =
      filter_empty (names_it name) (rows_of other) (λ row at.
      ap (names_it name) (of_map (opening_row other) (rows other) row at).2 ∙ e)

  not_again : (other : Name) (names : List Name) → same_name other name ≡ true
      → AllByRecursion (λ more. same_name other more ≡ false) names → is_among names name ≡ false
  not_again other names e apart =
      not_so (is_among names name) (λ among.
      let found = any_some (λ more. same_name more name) names among in
      clash (same_name found.0 name) found.2
      (ap (same_name found.0) (sym (equal_names other name e))
      ∙ names_turned found.0 other
      ∙ of_all (λ more. same_name other more ≡ false) names found.0 apart found.1))

  -- of the rows of names that are apart, those of one name
  rows_of_names : (names : List Name) → Pairs (λ one other. same_name one other ≡ false) names
      → filter (names_it name) (flat_map rows_of names) ≡ cond (is_among names name) (rows_of name) []
  rows_of_names [] apart = refl
  rows_of_names (other ∷ names) apart =
      filter_joined (names_it name) (rows_of other) (flat_map rows_of names)
      ∙ by (same_name other name) refl (rows_of_names names apart.1)
    where
      by : (b : Bool) → same_name other name ≡ b
          → filter (names_it name) (flat_map rows_of names) ≡ cond (is_among names name) (rows_of name) []
          → filter (names_it name) (rows_of other) ++ filter (names_it name) (flat_map rows_of names)
          ≡ cond (b || is_among names name) (rows_of name) []
      by true e rest =
          (λ i. all_or_none other true e i ++ rest i)
          ∙ ap (λ (b : Bool). rows_of other ++ cond b (rows_of name) []) (not_again other names e apart.0)
          ∙ append-nil (rows_of other)
          ∙ ap rows_of (equal_names other name e)
      by false e rest = λ i. all_or_none other false e i ++ rest i

-- ---- the rows that are shown

-- under the name of a table its rows, ascending, and none under any other
pub rows_shown : (opening : Opening) (name : Name) → rows_named (told_opening opening) name
    ≡ cond (is_declared opening.tables name) (set.ascending (opening_database opening name)) []
rows_shown opening name =
    ap (map row_of)
    (rows_of_names (λ other. set.ascending (opening_database opening other)) name (names_by_bytes opening)
    (names_apart opening))
    ∙ by (is_among (names_by_bytes opening) name)
    ∙ ap (λ (b : Bool). cond b (set.ascending (opening_database opening name)) []) (named opening name)
  where
    by : (b : Bool) → map row_of (cond b (told_rows opening name) [])
        ≡ cond b (set.ascending (opening_database opening name)) []
    by true = rows_again name (set.ascending (opening_database opening name))
    by false = refl

pub rows_told : (opening : Opening) (name : Name)
    → (is_declared opening.tables name ≡ false → opening_database opening name ≡ set.empty)
    → opening_database (told_opening opening) name ≡ opening_database opening name
rows_told opening name opens =
    ap (set.from_list {R = row_cmp}) (rows_shown opening name) ∙ by (is_declared opening.tables name) refl
  where
    by : (b : Bool) → is_declared opening.tables name ≡ b
        → set.from_list {R = row_cmp} (cond b (set.ascending (opening_database opening name)) [])
        ≡ opening_database opening name
    by true e = from_list-ascending rows_total exact_rows (opening_database opening name)
    by false e = sym (opens e)

-- rows without a fault of form stand in declared tables
abbrev pub StandInDeclared : Type 0
StandInDeclared = (opening : Opening) → opening_fault opening ≡ None → (name : Name)
    → is_declared opening.tables name ≡ false → opening_database opening name ≡ set.empty

pub told_alike : StandInDeclared → (opening : Opening) → opening_fault opening ≡ None
    → AreAlike (told_opening opening) opening
told_alike opens opening e = record {
  tables = tables_told opening;
  rows = λ i name. rows_told opening name (opens opening e name) i;
}

-- ---- rows that stand

pub row_itself : (rows : set.Set row_cmp) (row : List Value) → In row (set.ascending rows)
    → set.contains rows row ≡ true
row_itself rows row at =
    contains-ascending rows row
    ∙ any_in (eq_by_cmp row_cmp row) (set.ascending rows) row at (rows_equal.refl row)

-- an opening row that is a row of a table
pub record Stands (opening : Opening) (name : Name) (row : List Value) : Type 0 where
  pub one : OpeningRow
  pub at : In one opening.rows
  pub under : one.table.name ≡ name
  pub is : row ≡ row_of one

-- each row of a table at first is that of an opening row
pub row_stands : (opening : Opening) (name : Name) (row : List Value)
    → set.contains (opening_database opening name) row ≡ true → Stands opening name row
row_stands opening name row there =
    let found = any_some (eq_by_cmp row_cmp row) (rows_named opening name)
    (sym (contains-from_list rows_total exact_rows (rows_named opening name) row) ∙ there) in
    let from = of_map row_of (filter (names_it name) opening.rows) found.0 found.1 in
    let stands = of_filter (names_it name) opening.rows from.0 from.1 in
    record {
      one = from.0;
      at = stands.0;
      under = equal_names from.0.table.name name stands.1;
      is = exact_rows row found.0 ((Equal-is (row_cmp row found.0)).0 found.2) ∙ from.2;
    }
