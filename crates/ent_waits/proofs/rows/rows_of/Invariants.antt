use Rattle.std.proofs.Common.{◌≡◌, length}
use Rattle.std.specs.Prelude.{IfSome}
use Rattle.ent_waits.specs.Rows.{IsOfChangers}
use Rattle.ent_waits.proofs.Marked.{AreRowsUpto}
use Rattle.ent_waits.proofs.rows.rows_of.Given as goal

abbrev pub invariant-loop-place : goal.invariant-loop-place
invariant-loop-place l = record {
  upto : AreRowsUpto l.run l.submitted l.lent l.place l.rows;
  known : IfSome l.known (IsOfChangers l.run);
  room : length l.rows ≡ 64;
}
