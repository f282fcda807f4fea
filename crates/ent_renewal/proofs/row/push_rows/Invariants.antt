use Rattle.std.proofs.Common.{◌≡◌, ◌++◌, map, take}
use Rattle.ent_renewal.specs.Rows.{opening_row}
use Rattle.ent_renewal.proofs.row.push_rows.Given as goal

-- the rows so far
abbrev pub invariant-loop-row : goal.invariant-loop-row
invariant-loop-row l = l.rows ≡ l.initial.rows ++ map (opening_row l.table) (take l.row-index l.more)
