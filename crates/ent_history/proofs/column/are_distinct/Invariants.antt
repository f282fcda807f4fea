use Rattle.std.proofs.Common.{◌≡◌, drop}
use Rattle.ent_history.specs.Openings.{are_distinct}
use Rattle.ent_history.proofs.column.are_distinct.Given as goal

-- none behind those that were seen stands twice just where none of all does
abbrev pub invariant-loop-index : goal.invariant-loop-index
invariant-loop-index l = are_distinct (drop l.index l.columns) ≡ are_distinct l.columns
