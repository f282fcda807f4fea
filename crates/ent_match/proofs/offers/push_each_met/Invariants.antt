use Rattle.ent_match.proofs.Offered.{MetSoFar}
use Rattle.ent_match.proofs.offers.push_each_met.Given as goal

-- the offers of the posts so far are put down
abbrev pub invariant-loop-index : goal.invariant-loop-index
invariant-loop-index l = MetSoFar l.fn.offers.items l.offers.items l.asker l.owner l.index
