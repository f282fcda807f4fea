use Rattle.std.proofs.Common.{◌≡◌, take}
use Rattle.ent_protocol.specs.PoolEvents.{joint_uses}
use Rattle.ent_waits.proofs.uses.joint_uses.Given as goal

-- the uses of the statements so far
abbrev pub invariant-loop-query : goal.invariant-loop-query
invariant-loop-query l = l.uses.items ≡ joint_uses (take l.query-index l.asked)
