use Rattle.std.proofs.Common.{map, take}
use Rattle.ent_plan.specs.Pairs.{ArePairs, seen, seen_pair}
use Rattle.ent_plan.proofs.pair.pairs_of.Given as goal

-- the pairs of the posts so far
abbrev pub invariant-loop-post : goal.invariant-loop-post
invariant-loop-post l =
    ArePairs (map seen (take l.post-index l.posts)) (map seen l.heads) (map seen_pair l.pairs.items)
