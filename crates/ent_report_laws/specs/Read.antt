-- Openings such as an input has: within the limits, and of names and values that can stand in a text.
use Rattle.std.specs.Prelude.{◌≡◌, ◌≤◌, List, length}
use Rattle.std.specs.List.{AllByRecursion}
use Rattle.ent_tree.specs.declared.declaration.Create.{Create}
use Rattle.ent_tree.specs.declared.declaration.Opening.{Opening}
use Rattle.ent_tree.specs.declared.limits.TheConstants.{MOST_OPENING_ROWS, MOST_PARTS, MOST_TABLES}
use Rattle.ent_semantics.specs.Database.{row_of}
use Rattle.ent_history.specs.Parts.{IsName, IsValue}

-- a name, and 1 to 16 columns with names
pub record IsTableRead (create : Create) : Type 0 where
  pub name : IsName create.name.name
  pub some : 1 ≤ length create.columns
  pub few : length create.columns ≤ MOST_PARTS
  pub columns : AllByRecursion (λ column. IsName column.name.name) create.columns

-- at most 64 tables and 65,536 rows of values
pub record IsOpeningRead (opening : Opening) : Type 0 where
  pub few_tables : length opening.tables ≤ MOST_TABLES
  pub few_rows : length opening.rows ≤ MOST_OPENING_ROWS
  pub tables : AllByRecursion IsTableRead opening.tables
  pub values : AllByRecursion (λ row. AllByRecursion IsValue (row_of row)) opening.rows

-- neither the name of a table nor that of a column has a place
pub record IsUnplaced (create : Create) : Type 0 where
  pub table : create.name.place ≡ 0
  pub columns : AllByRecursion (λ column. column.name.place ≡ 0) create.columns

abbrev pub AreUnplaced : List Create → Type 0
AreUnplaced tables = AllByRecursion IsUnplaced tables
