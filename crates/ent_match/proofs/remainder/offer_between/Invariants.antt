use Rattle.ent_match.specs.Offers.{NoneIsFor}
use Rattle.ent_match.proofs.remainder.offer_between.Given as goal

-- none of the offers so far is for the post
abbrev pub invariant-loop-place : goal.invariant-loop-place
invariant-loop-place l = NoneIsFor l.offers l.asker l.index l.from l.place
