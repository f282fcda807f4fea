use Rattle.std.proofs.Common.{◌≡◌, ◌+◌, ◌++◌, drop}
use Rattle.ent_book.specs.Report2.{grounded_joints_text}
use Rattle.ent_book.proofs.grounding.append_grounded_joints.Given as goal

-- what is out, and the text of what is left
abbrev pub invariant-loop-joint : goal.invariant-loop-joint
invariant-loop-joint l = record {
  number : l.number ≡ l.joint-index + 1;
  whole :
      l.out.items ++ grounded_joints_text l.scripts l.number (drop l.joint-index l.joints)
      ≡ l.fn.out.items ++ grounded_joints_text l.scripts 1 l.joints;
}
