-- Databases and environments, and the tables that an input declares.
use Rattle.std.specs.Prelude.{ℕ, suc, Bool, List, [], ◌∷◌, map, Option, Some, None, if◌then◌else◌, ◌==◌}
use Rattle.std.specs.List.{filter, list_any}
use Rattle.std.specs.Cmp.Lexicographic.{pointwise}
use Rattle.ent_lists.specs.Sets as set
use Rattle.ent_value.specs.Value.{row_cmp}
use Rattle.ent_value.specs.declared.value.Value.{Value}
use Rattle.ent_tree.specs.declared.declaration.Create.{Create}
use Rattle.ent_tree.specs.declared.declaration.Opening.{Opening}
use Rattle.ent_tree.specs.declared.declaration.OpeningRow.{OpeningRow}

-- a name, as its bytes
abbrev pub Name : Type 0
Name = List ℕ

-- names are compared byte by byte
abbrev pub same_name : Name → Name → Bool
same_name = pointwise ◌==◌

abbrev pub is_among : List Name → Name → Bool
is_among names name = list_any (λ other. same_name other name) names

-- how many names stand before the first such one: all, where there is none
abbrev pub index_of : List Name → Name → ℕ
index_of [] name = 0
index_of (first ∷ names) name = if same_name first name then 0 else suc (index_of names name)

-- a finite set of rows
abbrev pub Rows : Type 0
Rows = set.Set row_cmp

-- from the names of tables to their rows
abbrev pub Database : Type 0
Database = Name → Rows

-- from host variables to their values
abbrev pub Environment : Type 0
Environment = Name → Option Value

abbrev pub nothing_bound : Environment
nothing_bound variable = None

-- the environment with another value of one host variable
abbrev pub with_value : Environment → Name → Value → Environment
with_value environment variable value other = if same_name variable other then Some value else environment other

-- the environment with values of some host variables, one after the other
abbrev pub with_values : Environment → List (Name × Value) → Environment
with_values environment [] = environment
with_values environment (bound ∷ more) = with_values (with_value environment bound.0 bound.1) more

-- the database with other rows in one table
abbrev pub with_rows : Database → Name → Rows → Database
with_rows database table rows other = if same_name other table then rows else database other

-- how a table is found in what holds tables, and how it gets other rows
pub record Table (D : Type 0) : Type 0 where
  pub rows : D → Rows
  pub replaced : D → Rows → D

-- the table of a name
abbrev pub table_named : Name → Table Database
table_named name =
    record { rows = λ database. database name; replaced = λ database rows. with_rows database name rows }

-- the names of a table's columns, in the order of its declaration
abbrev pub columns_of : List Create → Name → List Name
columns_of [] table = []
columns_of (create ∷ more) table =
    if same_name create.name.name table then map (λ column. column.name.name) create.columns else columns_of more table

-- the row that the literals of an opening row make
abbrev pub row_of : OpeningRow → List Value
row_of row = map (λ literal. literal.value) row.values

-- the opening rows that name a table, in their order
abbrev pub rows_named : Opening → Name → List (List Value)
rows_named opening name = map row_of (filter (λ row. same_name row.table.name name) opening.rows)

-- each table holds the opening rows that name it
abbrev pub opening_database : Opening → Database
opening_database opening table = set.from_list (rows_named opening table)
