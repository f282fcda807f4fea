use Rattle.std.proofs.Common.{◌≡◌, ◌+◌, ◌++◌, length}
use Rattle.ent_feed.specs.Walk.{rows_beside}
use Rattle.ent_feed.proofs.Merge.{Ascends}
use Rattle.ent_feed.proofs.difference.merge.Given as goal

-- what was noted, and what will be of the rows that are left
abbrev pub invariant-steps : goal.invariant-steps
invariant-steps l = record {
  removed : l.removed ++ rows_beside l.old l.new ≡ rows_beside l.fn.old l.fn.new;
  added : l.added ++ rows_beside l.new l.old ≡ rows_beside l.fn.new l.fn.old;
  olds : Ascends l.old;
  news : Ascends l.new;
}

abbrev pub decreases-steps : goal.decreases-steps
decreases-steps l = length l.old + length l.new
