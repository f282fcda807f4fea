use Rattle.std.proofs.Common.{◌≡◌, ◌++◌, take, drop, map}
use Rattle.std.specs.Prelude.{slice_index}
use Rattle.ent_group.specs.Marks.{joined}
use Rattle.ent_group.proofs.marks.join_over.Given as goal

abbrev pub invariant-loop-row : goal.invariant-loop-row
invariant-loop-row l = l.rows ≡ map (joined l.middle (slice_index l.fn.rows l.middle)) (take l.row-index l.fn.rows)
    ++ drop l.row-index l.fn.rows
