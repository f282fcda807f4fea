-- Tables that are shared, in the order of their declaration.
use Rattle.std.specs.Prelude.{List, map}
use Rattle.std.specs.Arc.{arc_value}
use Rattle.std.specs.declared.sync.Arc.{Arc}
use Rattle.ent_rel.specs.Relation.{Relation}
use Rattle.ent_tree.specs.declared.declaration.Opening.{Opening}
use Rattle.ent_semantics.specs.Database.{Database}
use Rattle.ent_semantics.specs.Form.{Tables}
use Rattle.ent_protocol.specs.Reached.{named_tables, table_names}

-- the rows of each
abbrev pub rows_in : {Z : Type 0} → List (Arc Relation Z) → Tables
rows_in {Z} tables = map (λ (table : Arc Relation Z). (arc_value table).rows) tables

-- the database that they are, under their names
abbrev pub database_in : {Z : Type 0} → Opening → List (Arc Relation Z) → Database
database_in opening tables = named_tables (table_names opening) (rows_in tables)
