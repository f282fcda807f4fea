use Rattle.std.proofs.Common.{◌<◌, length}
use Rattle.std.specs.List.{AllByRecursion}
use Rattle.ent_join.specs.Cursor.{PassesOver}
use Rattle.ent_join.proofs.cursor.rows_behind.Given as goal

abbrev pub invariant-loop-left : goal.invariant-loop-left
invariant-loop-left l = record {
  has_column : AllByRecursion (λ row. l.column < length row) l.left;
  passed : PassesOver l.column l.value l.fn.rows l.left;
}

abbrev pub decreases-loop-left : goal.decreases-loop-left
decreases-loop-left l = length l.left
