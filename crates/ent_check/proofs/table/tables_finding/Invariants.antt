use Rattle.std.proofs.Common.{map}
use Rattle.std.specs.Arc.{arc_value}
use Rattle.ent_form.specs.Tables.{database_of}
use Rattle.ent_ordinary.specs.Tables.{rows_in}
use Rattle.ent_check.proofs.Found.{ShownBehind}
use Rattle.ent_check.proofs.table.tables_finding.Given as goal

-- the tables so far are shown as they stand
abbrev pub invariant-loop-index : goal.invariant-loop-index
invariant-loop-index l = ShownBehind (database_of l.creates (rows_in (map arc_value l.tables))) l.shown l.index
