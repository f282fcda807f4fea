-- What tables hold.
use Rattle.std.specs.Prelude.{List, [], map}
use Rattle.ent_lists.specs.Sets as set
use Rattle.ent_value.specs.declared.value.Kind.{Kind}
use Rattle.ent_value.specs.declared.value.Value.{Value}
use Rattle.ent_rel.specs.Relation.{Relation}
use Rattle.ent_semantics.specs.Database.{Rows}

-- what stands for a table that isn't there
abbrev pub no_table : Relation
no_table = record { kinds = []; rows = set.empty }

abbrev pub kinds_in : List Relation → List (List Kind)
kinds_in tables = map (λ table. table.kinds) tables

abbrev pub rows_in : List Relation → List Rows
rows_in tables = map (λ table. table.rows) tables

-- the rows of each table, in order
abbrev pub rows_listed : List Relation → List (List (List Value))
rows_listed tables = map (λ table. set.ascending table.rows) tables
