-- How many rows stand together, and how many values stand in each.
use Rattle.std.proofs.Common.{◌≡◌, ℕ, ◌+◌, ◌<◌, ◌≤◌, All, List, [], ◌++◌, length, map, take, get_or, sym, ap, ◌∙◌}
use Rattle.std.proofs.Common.{arith, append-nil, sum_by}
use Rattle.std.specs.List.{AllByRecursion}
use Rattle.std.proofs.lemmas.List.{length-map}
use Rattle.std.proofs.lemmas.List.Concat.{length-flat_map}
use Rattle.std.proofs.lemmas.List.Folds.{length-flat_map-take}
use Rattle.ent_lists.specs.Sets as set
use Rattle.ent_lists.specs.Laws.{ascending-from_list}
use Rattle.ent_value.specs.Order.{exact_rows, rows_total}
use Rattle.ent_value.specs.Value.{kind_of, kinds_of, row_cmp}
use Rattle.ent_value.specs.declared.value.Value.{Value}
use Rattle.ent_tree.specs.declared.declaration.Create.{Create}
use Rattle.ent_tree.specs.declared.declaration.OpeningRow.{OpeningRow}
use Rattle.ent_semantics.specs.Database.{Database, Rows}
use Rattle.ent_semantics.specs.Kinds.{RowsHaveKinds}
use Rattle.ent_book.proofs.Ascending.{count_of_ascending}
use Rattle.ent_form.specs.Catalogue.{column_schema, table_schema}
use Rattle.ent_form.specs.declared.catalogue.ColumnSchema.{ColumnSchema}
use Rattle.ent_form.specs.TableKinds.{column_kinds}
use Rattle.ent_lists.specs.Elements.{nth_in, of_all}
use Rattle.ent_semantics.proofs.EachRow.{to_ascending}
use Rattle.ent_renewal.specs.Renewal.{rows_together}
use Rattle.ent_renewal.specs.Rows.{opening_row, opening_rows, table_rows}

table_counted : (database : Database) (create : Create)
    → length (table_rows database create) ≡ set.len (database create.name.name)
table_counted database create =
    length-map (set.ascending (database create.name.name)) (opening_row create.name)
    ∙ count_of_ascending (database create.name.name)

rows_counted : (declared : List Create) (database : Database)
    → length (opening_rows declared database) ≡ rows_together declared database
rows_counted declared database =
    length-flat_map (table_rows database) declared
    ∙ (λ i. sum_by (λ create. table_counted database create i) declared)

-- behind the tables before it there is room for each table
pub room : (declared : List Create) (database : Database) (n : ℕ) (create : Create) → n < length declared
    → length (opening_rows (take n declared) database) + set.len (database (get_or declared n create).name.name)
    ≤ rows_together declared database
room declared database n create low =
    let fits = length-flat_map-take (table_rows database) declared n create low in
    let here = table_counted database (get_or declared n create) in
    let all = rows_counted declared database in
    omega (arith, fits, here, all)

as_many : (create : Create) (row : List Value) → kinds_of row ≡ column_kinds (table_schema create)
    → length row ≡ length create.columns
as_many create row e =
    sym (length-map row kind_of) ∙ ap length e
    ∙ length-map (map column_schema create.columns) (λ (column : ColumnSchema). column.kind)
    ∙ length-map create.columns column_schema

-- rows of a table have no more values than it has columns
pub widths : (create : Create) (rows : Rows) (most : ℕ) → length create.columns ≤ most
    → RowsHaveKinds (column_kinds (table_schema create)) rows
    → All (λ row. length row ≤ most) (set.ascending rows)
widths create rows most few kinds k d low =
    of_all (λ row. length row ≤ most) (set.ascending rows) _ each (nth_in (set.ascending rows) k d low)
  where
    each : AllByRecursion (λ row. length row ≤ most) (set.ascending rows)
    each = to_ascending (λ row. length row ≤ most) rows (λ row there.
        let e = as_many create row (kinds row there) in omega (arith, few, e))

-- of a table that isn't there no row is put in
pub nothing_put : (database : Database) (create : Create) (rows : List OpeningRow)
    → database create.name.name ≡ set.empty → rows ≡ rows ++ table_rows database create
nothing_put database create rows none =
    let empty : set.ascending (set.empty {R = row_cmp}) ≡ [] = ascending-from_list rows_total exact_rows [] tt in
    sym (append-nil rows)
    ∙ ap (λ (more : List (List Value)). rows ++ map (opening_row create.name) more)
    (sym empty ∙ ap (λ (own : Rows). set.ascending own) (sym none))
