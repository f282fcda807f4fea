use Rattle.std.proofs.Common.{map, take}
use Rattle.ent_plan.specs.Pairs.{PutsPairs, seen, seen_pair}
use Rattle.ent_plan.proofs.pair.push_pairs.Given as goal

-- the pairs with the heads so far are put down
abbrev pub invariant-loop-head : goal.invariant-loop-head
invariant-loop-head l =
    PutsPairs (seen l.post) (map seen (take l.head-index l.heads)) (map seen_pair l.fn.pairs.items)
    (map seen_pair l.pairs.items) l.is_met
