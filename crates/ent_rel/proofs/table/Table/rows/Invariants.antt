use Rattle.std.proofs.Common.{◌≡◌, ◌++◌, length}
use Rattle.ent_lists.specs.Sets as set
use Rattle.ent_rel.proofs.table.Table.rows.Given as goal

-- the rows so far and those to come
abbrev pub invariant-loop-row : goal.invariant-loop-row
invariant-loop-row l = l.rows.items ++ l.cursor ≡ set.ascending l.self.rows

abbrev pub decreases-loop-row : goal.decreases-loop-row
decreases-loop-row l = length l.cursor
