use Rattle.std.proofs.Common.{◌≡◌, take}
use Rattle.ent_unify.specs.Unifier.{kinds_seen}
use Rattle.ent_plan.specs.Agreement.{variables_of}
use Rattle.ent_plan.proofs.join_plan.kinds_of.Given as goal

-- the kinds of the members so far
abbrev pub invariant-loop-member : goal.invariant-loop-member
invariant-loop-member l = kinds_seen l.kinds.items ≡ variables_of (take l.member-index l.members)
