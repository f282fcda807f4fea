use Rattle.std.proofs.Common.{◌≡◌, ◌++◌, drop, map}
use Rattle.ent_meet.specs.Joints.{answered_of}
use Rattle.ent_meet.proofs.joints.joint_of.Given as goal

-- what is made, and what is left
abbrev pub invariant-loop-member : goal.invariant-loop-member
invariant-loop-member l =
    l.members.items ++ map (answered_of l.fates) (drop l.member-index l.member-items)
    ≡ map (answered_of l.fates) l.member-items
