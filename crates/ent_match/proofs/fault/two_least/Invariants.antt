use Rattle.std.proofs.Common.{take}
use Rattle.ent_match.specs.Fault.{AreSoFar}
use Rattle.ent_match.proofs.fault.two_least.Given as goal

-- what is known of the statements so far
abbrev pub invariant-loop-owner : goal.invariant-loop-owner
invariant-loop-owner l = AreSoFar (take l.owner-index l.members) l.asker l.index l.first
