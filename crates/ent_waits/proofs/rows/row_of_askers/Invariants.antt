use Rattle.std.proofs.Common.{take}
use Rattle.ent_waits.specs.Rows.{MarksInConflict}
use Rattle.ent_waits.proofs.Holders.{ForEach}
use Rattle.ent_waits.proofs.rows.row_of_askers.Given as goal

abbrev pub invariant-loop-own : goal.invariant-loop-own
invariant-loop-own l = ForEach (MarksInConflict l.run l.askers) (take l.own-index l.asked) l.row
