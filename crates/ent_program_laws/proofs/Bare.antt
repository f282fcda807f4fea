-- An opening such as an input has is one without its places, too.
use Rattle.std.proofs.Common.{◌≡◌, List, [], ◌∷◌, map, refl, arith}
use Rattle.std.specs.List.{AllByRecursion}
use Rattle.std.proofs.lemmas.List.{length-map}
use Rattle.ent_tree.specs.declared.declaration.Column.{Column}
use Rattle.ent_tree.specs.declared.declaration.Create.{Create}
use Rattle.ent_tree.specs.declared.declaration.Opening.{Opening}
use Rattle.ent_tree.specs.declared.operand.Literal.{Literal}
use Rattle.ent_tree.specs.Places.{unplaced_literal}
use Rattle.ent_semantics.specs.Database.{row_of}
use Rattle.ent_history.specs.Parts.{IsName, IsValue}
use Rattle.ent_lists.specs.Elements.{all_by, all_map, to_all}
use Rattle.ent_report_laws.specs.Read.{AreUnplaced, IsOpeningRead, IsTableRead, IsUnplaced}
use Rattle.ent_program_laws.specs.Unplaced.{unplaced_create, unplaced_declared, unplaced_opening, unplaced_row}

table_bare : (create : Create) → IsTableRead create → IsTableRead (unplaced_create create)
table_bare create read =
    let long = length-map create.columns unplaced_declared in
    let some = read.some in
    let few = read.few in
    record {
      name = read.name;
      some = omega (arith, long, some);
      few = omega (arith, long, few);
      columns = all_map unplaced_declared (λ column. IsName column.name.name) create.columns read.columns;
    }

create_unplaced : (create : Create) → IsUnplaced (unplaced_create create)
create_unplaced create = record {
  table = refl;
  columns = all_map unplaced_declared (λ column. column.name.place ≡ 0) create.columns
      (to_all (λ (column : Column). 0 ≡ 0) create.columns (λ column at. refl));
}

pub none_placed : (creates : List Create) → AreUnplaced (map unplaced_create creates)
none_placed creates =
    all_map unplaced_create IsUnplaced creates
    (to_all (λ (create : Create). IsUnplaced (unplaced_create create)) creates (λ create at. create_unplaced create))

values_bare : (values : List Literal) → AllByRecursion IsValue (map (λ literal. literal.value) values)
    → AllByRecursion IsValue (map (λ literal. literal.value) (map unplaced_literal values))
values_bare [] read = tt
values_bare (literal ∷ more) read = (read.0, values_bare more read.1)

pub opening_bare : (opening : Opening) → IsOpeningRead opening → IsOpeningRead (unplaced_opening opening)
opening_bare opening read =
    let tables = length-map opening.tables unplaced_create in
    let rows = length-map opening.rows unplaced_row in
    let few_tables = read.few_tables in
    let few_rows = read.few_rows in
    record {
      few_tables = omega (arith, tables, few_tables);
      few_rows = omega (arith, rows, few_rows);
      tables = all_map unplaced_create IsTableRead opening.tables
          (all_by IsTableRead (λ create. IsTableRead (unplaced_create create)) opening.tables table_bare read.tables);
      values = all_map unplaced_row (λ row. AllByRecursion IsValue (row_of row)) opening.rows
          (all_by (λ row. AllByRecursion IsValue (row_of row))
          (λ row. AllByRecursion IsValue (row_of (unplaced_row row))) opening.rows (λ row. values_bare row.values)
          read.values);
    }
