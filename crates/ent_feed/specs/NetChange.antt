-- The net change of a table: the rows that went, and those that came.
use Rattle.std.specs.Prelude.{List, not}
use Rattle.std.specs.List.{filter}
use Rattle.ent_lists.specs.Sets as set
use Rattle.ent_value.specs.declared.value.Value.{Value}
use Rattle.ent_rel.specs.Relation.{RowSet}
use Rattle.ent_rel.specs.declared.change.Delta.{Delta}

-- the rows of one set that aren't in another, ascending
abbrev pub rows_without : RowSet → RowSet → List (List Value)
rows_without rows others = filter (λ row. not (set.contains others row)) (set.ascending rows)

-- from one set of rows to another: those that are gone, and those that came
abbrev pub net_change : RowSet → RowSet → Delta
net_change before after = record { removed = rows_without before after; added = rows_without after before }
