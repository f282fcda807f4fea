use Rattle.std.proofs.Common.{take}
use Rattle.ent_waits.specs.Rows.{HasLast, HasMarksOf}
use Rattle.ent_waits.proofs.Holders.{ForEach, MarksHolder}
use Rattle.ent_waits.proofs.rows.mark_holders.Given as goal

abbrev pub invariant-loop-held : goal.invariant-loop-held
invariant-loop-held l = record {
  kept : HasMarksOf l.marked.row l.row;
  each : ForEach (MarksHolder l.run l.askers l.asked) (take l.held-index l.held-items) l.marked.row;
  last : HasLast l.run l.marked;
}
