use Rattle.ent_check.specs.Offers.{AreJoined, joint_in}
use Rattle.ent_check.proofs.joined.joined_by.Given as goal

-- the offers so far stand under their joint answers
abbrev pub invariant-loop-offer : goal.invariant-loop-offer
invariant-loop-offer l = AreJoined (joint_in l.seats) l.yielded l.joined
