use Rattle.std.proofs.Common.{◌≡◌, map, take}
use Rattle.ent_plan.specs.Pairs.{placed_posts, seen}
use Rattle.ent_plan.proofs.pair.posts_of.Given as goal

-- the posts of the members so far
abbrev pub invariant-loop-place : goal.invariant-loop-place
invariant-loop-place l = map seen l.placed.items ≡ placed_posts (take l.place l.members)
