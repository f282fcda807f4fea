use Rattle.ent_join.specs.Dead.{IsNoneBefore}
use Rattle.ent_join.proofs.reason.is_none_before.Given as goal

abbrev pub invariant-loop-before : goal.invariant-loop-before
invariant-loop-before l = IsNoneBefore l.marks l.before
