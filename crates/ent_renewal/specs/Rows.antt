-- Rows of a database as an opening has them.
use Rattle.std.specs.Prelude.{List, map}
use Rattle.std.specs.List.{flat_map}
use Rattle.ent_lists.specs.Sets as set
use Rattle.ent_value.specs.declared.value.Value.{Value}
use Rattle.ent_tree.specs.declared.declaration.Create.{Create}
use Rattle.ent_tree.specs.declared.declaration.OpeningRow.{OpeningRow}
use Rattle.ent_tree.specs.declared.operand.Identifier.{Identifier}
use Rattle.ent_tree.specs.declared.operand.Literal.{Literal}
use Rattle.ent_semantics.specs.Database.{Database}

-- a value as it is written; it stands in no text, so its place is 0
abbrev pub literal_of : Value → Literal
literal_of value = record { value = value; place = 0 }

-- a row of the table that this identifier names
abbrev pub opening_row : Identifier → List Value → OpeningRow
opening_row table row = record { table = table; place = 0; values = map literal_of row }

-- the rows of a declared table, ascending
abbrev pub table_rows : Database → Create → List OpeningRow
table_rows database create = map (opening_row create.name) (set.ascending (database create.name.name))

-- the rows of declared tables, one table after the other
abbrev pub opening_rows : List Create → Database → List OpeningRow
opening_rows declared database = flat_map (table_rows database) declared
