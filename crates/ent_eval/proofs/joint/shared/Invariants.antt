use Rattle.std.proofs.Common.{◌≡◌, take}
use Rattle.ent_eval.proofs.joint.shared.Given as goal

-- the statements so far
abbrev pub invariant-loop-query : goal.invariant-loop-query
invariant-loop-query l = l.members.items ≡ take l.query-index l.asked
