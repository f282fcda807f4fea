use Rattle.std.proofs.Common.{◌≡◌, drop}
use Rattle.ent_value.specs.Value.{row_cmp}
use Rattle.ent_feed.proofs.difference.compare.Given as goal

-- the cells so far are the same, so the others decide
abbrev pub invariant-loop-index : goal.invariant-loop-index
invariant-loop-index l = row_cmp l.left l.right ≡ row_cmp (drop l.index l.left) (drop l.index l.right)
