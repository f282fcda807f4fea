use Rattle.std.proofs.Common.{take}
use Rattle.ent_rel.specs.Kept.{RemovesRows}
use Rattle.ent_rel.proofs.keys.keys_to_remove.Given as goal

-- the keys so far take out the rows so far
abbrev pub invariant-loop-row : goal.invariant-loop-row
invariant-loop-row l = RemovesRows l.kinds l.keys.items (take l.row-index l.rows)
