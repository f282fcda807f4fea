use Rattle.ent_match.proofs.Offered.{BetweenSoFar}
use Rattle.ent_match.proofs.offers.push_between.Given as goal

-- the offers between the one and the statements so far are put down
abbrev pub invariant-loop-member : goal.invariant-loop-member
invariant-loop-member l = BetweenSoFar l.fn.offers.items l.offers.items l.members l.new l.member-index
