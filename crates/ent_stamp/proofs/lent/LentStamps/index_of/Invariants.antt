use Rattle.ent_stamp.proofs.lent.LentStamps.index_of.Given as goal

-- nothing is kept
abbrev pub invariant-loop-place : goal.invariant-loop-place
invariant-loop-place g l = Unit {0}
