-- The tables of an opening whose rows are those of a database are the database again.
use Rattle.std.proofs.Common.{◌≡◌, Bool, true, false, cond, ◌||◌, ◌&&◌, List, [], ◌∷◌, map, refl, sym, ap, ◌∙◌}
use Rattle.std.specs.List.{filter, list_any}
use Rattle.std.specs.Ordering.{eq_by_cmp}
use Rattle.std.proofs.lemmas.List.Folds.{list_any-append}
use Rattle.ent_lists.specs.Sets as set
use Rattle.ent_lists.specs.Laws.{contains-ascending, contains-empty, contains-from_list, same_set}
use Rattle.ent_value.specs.Order.{exact_rows, rows_total}
use Rattle.ent_value.specs.Value.{row_cmp}
use Rattle.ent_value.specs.declared.value.Value.{Value}
use Rattle.ent_tree.specs.declared.declaration.Create.{Create}
use Rattle.ent_tree.specs.declared.declaration.OpeningRow.{OpeningRow}
use Rattle.ent_tree.specs.declared.operand.Identifier.{Identifier}
use Rattle.ent_semantics.specs.Database.{Database, Name, Rows, row_of, same_name}
use Rattle.ent_semantics.specs.Names.{equal_names}
use Rattle.ent_lists.specs.Elements.{filter_joined, map_joined}
use Rattle.ent_renewal.specs.Renewal.{HoldsTablesOf}
use Rattle.ent_renewal.specs.Rows.{literal_of, opening_row, opening_rows, table_rows}

values_again : (row : List Value) → map (λ literal. literal.value) (map literal_of row) ≡ row
values_again [] = refl
values_again (value ∷ row) = ap (λ more. value ∷ more) (values_again row)

either_same : (a b : Bool) → (a || (b && a)) ≡ a
either_same true b = refl
either_same false true = refl
either_same false false = refl

-- the rows that are put in under a name, as rows of values
module _ (database : Database) (name : Name) where
  abbrev is_of : OpeningRow → Bool
  is_of row = same_name row.table.name name

  abbrev under_name : List OpeningRow → List (List Value)
  under_name rows = map row_of (filter is_of rows)

  -- rows of one table, which has the name or another
  one_table : (table : Identifier) (rows : List (List Value)) (b : Bool) → same_name table.name name ≡ b
      → under_name (map (opening_row table) rows) ≡ cond b rows []
  one_table table [] true e = refl
  one_table table [] false e = refl
  one_table table (row ∷ rows) true e =
      ap (λ b. map row_of (cond b (opening_row table row ∷ filter is_of (map (opening_row table) rows))
      (filter is_of (map (opening_row table) rows)))) e
      ∙ (λ i. values_again row i ∷ one_table table rows true e i)
  one_table table (row ∷ rows) false e =
      ap (λ b. map row_of (cond b (opening_row table row ∷ filter is_of (map (opening_row table) rows))
      (filter is_of (map (opening_row table) rows)))) e
      ∙ one_table table rows false e

  module _ (row : List Value) where
    abbrev there : List (List Value) → Bool
    there rows = list_any (eq_by_cmp row_cmp row) rows

    -- a row is among those that are put in where the name is declared and its table has the row
    among : (declared : List Create)
        → there (under_name (opening_rows declared database))
        ≡ (list_any (λ create. same_name create.name.name name) declared && set.contains (database name) row)
    among [] = refl
    among (create ∷ more) =
        ap there (ap (map row_of) (filter_joined is_of (table_rows database create) (opening_rows more database))
        ∙ map_joined row_of (filter is_of (table_rows database create)) (filter is_of (opening_rows more database)))
        ∙ list_any-append (eq_by_cmp row_cmp row) (under_name (table_rows database create))
        (under_name (opening_rows more database))
        ∙ by (same_name create.name.name name) refl (among more)
      where
        by : (b : Bool) → same_name create.name.name name ≡ b
            → there (under_name (opening_rows more database))
            ≡ (list_any (λ create. same_name create.name.name name) more && set.contains (database name) row)
            → (there (under_name (table_rows database create)) || there (under_name (opening_rows more database)))
            ≡ ((b || list_any (λ create. same_name create.name.name name) more) && set.contains (database name) row)
        by true e rest =
            let here : there (under_name (table_rows database create)) ≡ set.contains (database name) row =
            ap there (one_table create.name (set.ascending (database create.name.name)) true e)
            ∙ sym (contains-ascending (database create.name.name) row)
            ∙ ap (λ (n : Name). set.contains (database n) row) (equal_names create.name.name name e) in
            (λ i. here i || rest i)
            ∙ either_same (set.contains (database name) row)
            (list_any (λ create. same_name create.name.name name) more)
        by false e rest =
            ap (λ b. b || there (under_name (opening_rows more database)))
            (ap there (one_table create.name (set.ascending (database create.name.name)) false e))
            ∙ rest

  pub same_tables : (declared : List Create) → HoldsTablesOf declared database
      → set.from_list {R = row_cmp} (under_name (opening_rows declared database)) ≡ database name
  same_tables declared holds =
      same_set rows_total exact_rows _ _ (λ row.
      contains-from_list rows_total exact_rows (under_name (opening_rows declared database)) row
      ∙ among row declared
      ∙ by row (list_any (λ create. same_name create.name.name name) declared) refl)
    where
      by : (row : List Value) (b : Bool) → list_any (λ create. same_name create.name.name name) declared ≡ b
          → (b && set.contains (database name) row) ≡ set.contains (database name) row
      by row true e = refl
      by row false e =
          sym (contains-empty row_cmp row)
          ∙ ap (λ (rows : Rows). set.contains rows row) (sym (holds.others name e))
