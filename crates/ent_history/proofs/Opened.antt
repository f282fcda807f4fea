-- The opening that a report shows is the book's, its tables by name and its rows ascending.
use Rattle.std.proofs.Common.{◌≡◌, ℕ, Bool, true, false, cond, ◌||◌, List, [], ◌∷◌, ◌++◌, map, length, refl, sym, ap}
use Rattle.std.proofs.Common.{◌∙◌}
use Rattle.std.specs.List.{filter, flat_map, list_any}
use Rattle.std.specs.FinMap as finite
use Rattle.std.specs.Ordering.{eq_by_cmp}
use Rattle.std.proofs.lemmas.List.{append-nil}
use Rattle.std.proofs.lemmas.Cmp.{nat_list_cmp_total}
use Rattle.std.proofs.lemmas.Map.Lookups.{exact_bytes}
use Rattle.ent_lists.specs.Sets as set
use Rattle.ent_lists.specs.Laws.{contains-ascending, contains-from_list}
use Rattle.ent_value.specs.declared.value.Value.{Value}
use Rattle.ent_tree.specs.declared.declaration.Column.{Column}
use Rattle.ent_tree.specs.declared.declaration.Create.{Create}
use Rattle.ent_tree.specs.declared.declaration.Opening.{Opening}
use Rattle.ent_tree.specs.declared.declaration.OpeningRow.{OpeningRow}
use Rattle.ent_semantics.specs.Database.{Name, opening_database, row_of, same_name, rows_named}
use Rattle.ent_book.specs.Report.{names_by_bytes, rows_text}
use Rattle.ent_book.specs.Report2 as book
use Rattle.ent_book.specs.Report2.{opening_line, opening_table_text, declared_columns}
use Rattle.ent_book.proofs.Ascending.{count_of_ascending}
use Rattle.ent_history.specs.Text.{opened_text, opening_text}
use Rattle.ent_history.specs.Told.{declared_under, opening_row, told_rows, told_opening}
use Rattle.ent_history.proofs.Lists.{same_each, flat_map-flat_map, filter-flat_map, name_cmp, ties, other_way}
use Rattle.ent_history.proofs.Lists.{is_same, AreApart, is_in, apart, each_in, of_name, one_of}

-- ---- rows

pub row_again : (name : Name) (values : List Value) → row_of (opening_row name values) ≡ values
row_again name [] = refl
row_again name (value ∷ values) = ap (λ more. value ∷ more) (row_again name values)

pub rows_again : (name : Name) (rows : List (List Value)) → map row_of (map (opening_row name) rows) ≡ rows
rows_again name [] = refl
rows_again name (row ∷ rows) = (λ i. row_again name row i ∷ map row_of (map (opening_row name) rows))
    ∙ ap (λ more. row ∷ more) (rows_again name rows)

rows_of_name : (wanted name : Name) (rows : List (List Value))
    → filter (λ (row : OpeningRow). same_name row.table.name wanted) (map (opening_row name) rows)
    ≡ cond (same_name name wanted) (map (opening_row name) rows) []
rows_of_name wanted name rows = by rows (same_name name wanted) refl
  where
    by : (rows : List (List Value)) (test : Bool) → same_name name wanted ≡ test
        → filter (λ (row : OpeningRow). same_name row.table.name wanted) (map (opening_row name) rows)
        ≡ cond test (map (opening_row name) rows) []
    by [] true e = refl
    by [] false e = refl
    by (row ∷ rows) true e = rw e (ap (λ more. opening_row name row ∷ more) (by rows true e))
    by (row ∷ rows) false e = rw e (by rows false e)

module _ (opening : Opening) where
  names_apart : AreApart (names_by_bytes opening)
  names_apart = apart _ (finite.entries_sorted _)

  rows_shown : (name : Name) → is_in name (names_by_bytes opening) ≡ true
      → rows_named (told_opening opening) name ≡ set.ascending (opening_database opening name)
  rows_shown name there =
      ap (map row_of)
      (filter-flat_map (λ (row : OpeningRow). same_name row.table.name name) (told_rows opening)
      (names_by_bytes opening)
      ∙ same_each _ (of_name (told_rows opening) name) (names_by_bytes opening)
      (each_in _ (names_by_bytes opening) (λ other e.
      rows_of_name name other (set.ascending (opening_database opening other))))
      ∙ one_of (told_rows opening) name (names_by_bytes opening) names_apart there)
      ∙ rows_again name (set.ascending (opening_database opening name))

  -- ---- tables

  record Declared (tables : List Create) (name : Name) : Type 0 where
    create : Create
    under : declared_under tables name ≡ create ∷ []
    name_is : create.name.name ≡ name
    columns : create.columns ≡ declared_columns tables name

  declared_behind : (create : Create) (tables : List Create) (name : Name)
      → same_name create.name.name name ≡ false → Declared tables name → Declared (create ∷ tables) name
  declared_behind create tables name e found = record {
    create = found.create;
    under = rw e found.under;
    name_is = found.name_is;
    columns = rw e found.columns;
  }

  declared_by : (create : Create) (tables : List Create) (name : Name) (test : Bool)
      → same_name create.name.name name ≡ test
      → (is_in name (map (λ create. create.name.name) tables) ≡ true → Declared tables name)
      → is_in name (map (λ create. create.name.name) (create ∷ tables)) ≡ true
      → Declared (create ∷ tables) name
  declared_by create tables name true e rest there = record {
    create = create;
    under = rw e refl;
    name_is = is_same create.name.name name e;
    columns = rw e refl;
  }
  declared_by create tables name false e rest there =
      declared_behind create tables name e
      (rest (sym (ap (λ b. b || is_in name (map (λ create. create.name.name) tables))
      (other_way name create.name.name ∙ e)) ∙ there))

  declared : (tables : List Create) (name : Name) → is_in name (map (λ create. create.name.name) tables) ≡ true
      → Declared tables name
  declared [] name there = cc
  declared (create ∷ tables) name there =
      declared_by create tables name (same_name create.name.name name) refl (declared tables name) there

  same_tests : (name : Name) (names : List Name)
      → list_any (eq_by_cmp name_cmp name) names ≡ is_in name names
  same_tests name names = λ i. list_any (λ other. ties name other i) names

  are_declared : (name : Name) → is_in name (names_by_bytes opening) ≡ true
      → is_in name (map (λ create. create.name.name) opening.tables) ≡ true
  are_declared name there =
      let all : List Name = map (λ create. create.name.name) opening.tables in
      sym (same_tests name all)
      ∙ sym (contains-from_list nat_list_cmp_total exact_bytes all name)
      ∙ contains-ascending (set.from_list {R = name_cmp} all) name
      ∙ same_tests name (names_by_bytes opening)
      ∙ there

  shown : (name : Name) → is_in name (names_by_bytes opening) ≡ true
      → opening_table_text name (declared_columns opening.tables name) (opening_database opening name)
      ≡ flat_map (opened_text (told_opening opening)) (declared_under opening.tables name)
  shown name there =
      let found = declared opening.tables name (are_declared name there) in
      let rows = set.ascending (opening_database opening name) in
      let same_rows : rows_named (told_opening opening) found.create.name.name ≡ rows =
      ap (rows_named (told_opening opening)) found.name_is ∙ rows_shown name there in
      let text : Name → List Column → List (List Value) → List ℕ =
      λ name columns rows. opening_line name columns (length rows) ++ rows_text rows in
      ap (λ count. opening_line name (declared_columns opening.tables name) count ++ rows_text rows)
      (sym (count_of_ascending (opening_database opening name)))
      ∙ sym (λ i. text (found.name_is i) (found.columns i) (same_rows i))
      ∙ sym (append-nil (opened_text (told_opening opening) found.create))
      ∙ ap (flat_map (opened_text (told_opening opening))) (sym found.under)

  pub same_opening : book.opening_text opening (names_by_bytes opening) ≡ opening_text (told_opening opening)
  same_opening =
      same_each _ _ (names_by_bytes opening) (each_in _ (names_by_bytes opening) shown)
      ∙ sym (flat_map-flat_map (opened_text (told_opening opening)) (declared_under opening.tables)
      (names_by_bytes opening))
