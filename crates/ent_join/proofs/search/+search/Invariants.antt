use Rattle.std.proofs.Common.{◌≡◌, ◌+◌, length}
use Rattle.ent_join.specs.Dead.{AreDead}
use Rattle.ent_join.specs.Going.{IsGoing}
use Rattle.ent_join.proofs.search.+search.Given as goal

-- the values that are left to choose
abbrev pub decreases-search : goal.decreases-search
decreases-search g l = l.left

abbrev pub invariant-loop-value : goal.invariant-loop-value
invariant-loop-value g l = record {
  going : IsGoing (g.G.Guide.passes l.guide) (g.G.Guide.candidates l.guide) (length l.fn.values.items + l.left)
      l.fn.values.items l.values.items l.gathered.items l.cursor l.fn.ticks l.ticks;
  rooms : l.rooms ≡ l.fn.rooms;
  dead : AreDead (length l.fn.values.items + l.left) (g.G.Guide.passes l.guide) l.dead;
}

abbrev pub decreases-loop-value : goal.decreases-loop-value
decreases-loop-value g l = length l.cursor
