use Rattle.std.proofs.Common.{take}
use Rattle.ent_waits.specs.Rows.{HasMarksOf, MarksOne}
use Rattle.ent_waits.proofs.Holders.{ForEach}
use Rattle.ent_waits.proofs.rows.mark_group.Given as goal

abbrev pub invariant-loop-tx : goal.invariant-loop-tx
invariant-loop-tx l = record {
  kept : HasMarksOf l.marked l.row;
  each : ForEach (MarksOne l.run) (take l.tx-index l.tx-items) l.marked;
}
