use Rattle.std.proofs.Common.{◌≡◌, ◌++◌, drop}
use Rattle.ent_meet.specs.Text.{joints_text}
use Rattle.ent_meet.proofs.text.append_joints.Given as goal

-- what is out, and the text of what is left
abbrev pub invariant-loop-joint : goal.invariant-loop-joint
invariant-loop-joint l =
    l.out.items ++ joints_text l.tickets l.number (drop l.joint-index l.joints)
    ≡ l.fn.out.items ++ joints_text l.tickets l.first l.joints
