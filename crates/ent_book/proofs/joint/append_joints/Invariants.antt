use Rattle.std.proofs.Common.{◌≡◌, ◌+◌, ◌++◌, drop}
use Rattle.ent_book.specs.Report.{joints_text}
use Rattle.ent_book.proofs.joint.append_joints.Given as goal

-- what is out, and the text of what is left
abbrev pub invariant-loop-joint : goal.invariant-loop-joint
invariant-loop-joint l = record {
  number : l.number ≡ l.joint-index + 1;
  whole : l.out.items ++ joints_text l.number (drop l.joint-index l.joints) ≡ l.fn.out.items ++ joints_text 1 l.joints;
}
