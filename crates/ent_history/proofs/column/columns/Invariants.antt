use Rattle.std.proofs.Common.{◌-◌, length}
use Rattle.ent_history.specs.Openings.{columns_at}
use Rattle.ent_history.proofs.Columns.{ColumnsLeft}
use Rattle.ent_history.proofs.column.columns.Given as goal

-- what was read and what is left are all
abbrev pub invariant-loop-alloc : goal.invariant-loop-alloc
invariant-loop-alloc l = ColumnsLeft l.columns l.rest (columns_at l.bytes)

abbrev pub decreases-loop-alloc : goal.decreases-loop-alloc
decreases-loop-alloc l = 16 - length l.columns
