-- Openings, and states of their own, that go on where the tables of a database stand.
use Rattle.std.specs.Prelude.{◌≡◌, ℕ, false, All, List, None, if◌then◌else◌}
use Rattle.std.specs.List.{list_any, sum_by}
use Rattle.ent_lists.specs.Sets as set
use Rattle.ent_tree.specs.declared.declaration.Create.{Create}
use Rattle.ent_tree.specs.declared.declaration.Opening.{Opening}
use Rattle.ent_semantics.specs.Database.{Database, Name, is_among, opening_database, same_name}
use Rattle.ent_semantics.specs.Kinds.{RowsHaveKinds}
use Rattle.ent_form.specs.Catalogue.{table_schema}
use Rattle.ent_form.specs.OpeningFault.{opening_fault}
use Rattle.ent_form.specs.TableKinds.{column_kinds}
use Rattle.ent_protocol.specs.Reached.{named_tables, opened, table_names}
use Rattle.ent_protocol.specs.State.{State}

-- the rows of each declared table have the kinds of its columns, and nothing stands under other names
pub record HoldsTablesOf (declared : List Create) (database : Database) : Type 0 where
  pub kinds : All (λ create. RowsHaveKinds (column_kinds (table_schema create)) (database create.name.name)) declared
  pub others : (name : Name) → list_any (λ create. same_name create.name.name name) declared ≡ false
      → database name ≡ set.empty

-- the tables of these names are empty, the others as they were
abbrev pub drained : List Name → Database → Database
drained names database name = if is_among names name then set.empty else database name

-- how many rows stand in declared tables together
abbrev pub rows_together : List Create → Database → ℕ
rows_together declared database = sum_by (λ create. set.len (database create.name.name)) declared

-- an opening of these declarations, without a fault of form, whose tables at first are those of a database
pub record IsRenewed (declared : List Create) (database : Database) (opening : Opening) : Type 0 where
  pub declarations : opening.tables ≡ declared
  pub tables : opening_database opening ≡ database
  pub formed : opening_fault opening ≡ None

-- the tables of a state as they stand, under their names
abbrev pub present_database : State → Database
present_database s = named_tables (table_names s.opening) s.tables

-- a state over these declarations, whose tables are those of a database; no script was submitted, and no run is on
pub record GoesOn (declared : List Create) (database : Database) (s : State) : Type 0 where
  pub declarations : s.opening.tables ≡ declared
  pub tables : present_database s ≡ database
  pub fresh : s ≡ opened s.opening
