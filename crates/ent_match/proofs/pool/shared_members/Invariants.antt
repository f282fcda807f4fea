use Rattle.std.proofs.Common.{◌≡◌, take}
use Rattle.ent_match.proofs.pool.shared_members.Given as goal

-- the statements so far
abbrev pub invariant-loop-member : goal.invariant-loop-member
invariant-loop-member l = l.same.items ≡ take l.member-index l.members
