use Rattle.std.proofs.Common.{◌≡◌, take}
use Rattle.ent_plan.specs.Plan.{named}
use Rattle.ent_plan.proofs.named.shared_of.Given as goal

-- the named ones of the members so far
abbrev pub invariant-loop-member : goal.invariant-loop-member
invariant-loop-member l = l.shared.items ≡ named (take l.member-index l.members) l.txs
