-- Demands for which the text of a partner may offer something.
use Rattle.std.specs.Prelude.{◌≡◌, ℕ, Bool, List, Some, IsTrue, Contains}
use Rattle.std.specs.List.{list_any}
use Rattle.ent_tree.specs.declared.script.Script.{Script}
use Rattle.ent_semantics.specs.declared.book.JointAnswer.{JointAnswer}
use Rattle.ent_semantics.specs.declared.book.Member.{Member}
use Rattle.ent_semantics.specs.Serial.{numbered}
use Rattle.ent_meetings.specs.Pattern.{may_meet}
use Rattle.ent_meetings.specs.declared.pattern.Pattern.{Pattern}
use Rattle.ent_program_laws.specs.Known.{offers_at}

-- the statement of a member of the joint answer offers, by its text, what may meet the demand
pub record IsMetAmong (scripts : List Script) (members : List Member) (demand : Pattern) : Type 0 where
  pub partner : Member
  pub script : Script
  pub is_member : Contains members partner
  pub of_list : numbered scripts partner.tx ≡ Some script
  pub offers : IsTrue (list_any (may_meet demand) (offers_at script partner.place))

-- the members of each joint answer are all among these transactions, or none is
abbrev pub KeepsTogether : (ℕ → Bool) → List JointAnswer → Type 0
KeepsTogether are_some joint_answers =
    (joint : JointAnswer) (first second : Member) → Contains joint_answers joint → Contains joint.members first
    → Contains joint.members second → IsTrue (are_some first.tx) → IsTrue (are_some second.tx)
