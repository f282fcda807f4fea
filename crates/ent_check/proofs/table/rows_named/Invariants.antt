use Rattle.std.proofs.Common.{map}
use Rattle.std.specs.Arc.{arc_value}
use Rattle.ent_ordinary.specs.Tables.{rows_in}
use Rattle.ent_check.proofs.Found.{NamedBehind}
use Rattle.ent_check.proofs.table.rows_named.Given as goal

-- the tables so far have other names
abbrev pub invariant-loop-index : goal.invariant-loop-index
invariant-loop-index l = NamedBehind l.creates (rows_in (map arc_value l.tables)) l.name l.index
