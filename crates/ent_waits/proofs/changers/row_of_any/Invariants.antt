use Rattle.std.proofs.Common.{take}
use Rattle.ent_lock.specs.declared.holders.Holder.{Holder}
use Rattle.ent_waits.specs.Rows.{HasLast, MarksGroupOf}
use Rattle.ent_waits.proofs.Holders.{ForEach}
use Rattle.ent_waits.proofs.changers.row_of_any.Given as goal

abbrev pub invariant-loop-held : goal.invariant-loop-held
invariant-loop-held l = record {
  each : ForEach (λ (held : Holder). MarksGroupOf l.run held.holder) (take l.held-index l.held-items) l.marked.row;
  last : HasLast l.run l.marked;
}
