-- The tables that an input declares, without places.
use Rattle.std.specs.Prelude.{ℕ, suc, List, [], ◌∷◌, map, Option, Some, None, if◌then◌else◌}
use Rattle.ent_value.specs.declared.value.Kind.{Kind}
use Rattle.ent_tree.specs.declared.declaration.Column.{Column}
use Rattle.ent_tree.specs.declared.declaration.Create.{Create}
use Rattle.ent_semantics.specs.Database.{Name, same_name}
use Rattle.ent_form.specs.declared.catalogue.ColumnSchema.{ColumnSchema}
use Rattle.ent_form.specs.declared.catalogue.TableSchema.{TableSchema}

abbrev pub column_schema : Column → ColumnSchema
column_schema column = record { name = column.name.name; kind = column.kind }

abbrev pub table_schema : Create → TableSchema
table_schema create = record { name = create.name.name; columns = map column_schema create.columns }

abbrev pub schemas_of : List Create → List TableSchema
schemas_of tables = map table_schema tables

-- the first table of a name and its number, counted from a number on
abbrev pub table_from : ℕ → List TableSchema → Name → Option (ℕ × TableSchema)
table_from number [] name = None
table_from number (table ∷ tables) name =
    if same_name table.name name then Some (number, table) else table_from (suc number) tables name

abbrev pub table_named : List TableSchema → Name → Option (ℕ × TableSchema)
table_named tables name = table_from 0 tables name

-- the first column of a name, its number counted from a number on, and its kind
abbrev pub column_from : ℕ → List ColumnSchema → Name → Option (ℕ × Kind)
column_from number [] name = None
column_from number (column ∷ columns) name =
    if same_name column.name name then Some (number, column.kind) else column_from (suc number) columns name

abbrev pub column_named : List ColumnSchema → Name → Option (ℕ × Kind)
column_named columns name = column_from 0 columns name

abbrev pub names_of : List TableSchema → List Name
names_of tables = map (λ table. table.name) tables
