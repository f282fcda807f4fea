use Rattle.std.proofs.Common.{◌≡◌, ◌++◌, drop}
use Rattle.ent_meet.specs.Joints.{joints_of}
use Rattle.ent_meet.proofs.joints.joints_of.Given as goal

-- what is made, and what is left
abbrev pub invariant-loop-joint : goal.invariant-loop-joint
invariant-loop-joint l =
    l.made.items ++ joints_of l.fates (drop l.joint-index l.joints) ≡ joints_of l.fates l.joints
