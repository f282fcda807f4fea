-- The lines of joint answers.
use Rattle.std.proofs.Common.{◌≡◌, ℕ, ◌+◌, ◌<◌, List, [], ◌∷◌, ◌++◌, length, ap, ◌∙◌, arith}
use Rattle.ent_book.specs.Report.{line}
use Rattle.ent_history.specs.declared.history.ToldJoint.{ToldJoint}
use Rattle.ent_history.specs.JointLines.{joint_text}
use Rattle.ent_history.specs.Draft.{Draft, Due, members_due}
use Rattle.ent_history.specs.Joints.{JointStands}
use Rattle.ent_report_reader.specs.Due.{TablesAreNext}
use Rattle.ent_report_reader.specs.Reading.{IsJointLine}
use Rattle.ent_report_reader.proofs.Steps.{same_line}

abbrev pub next_joint : Draft → ℕ
next_joint draft = length draft.told.joint_answers + 1

pub joint_is_next : (old : Draft) (text : List ℕ) (next : Draft) → JointStands old (line text) next → TablesAreNext old
joint_is_next old text next stands = record { free = stands.free; told = stands.told }

pub joint_has : (old : Draft) (text : List ℕ) → length old.told.joint_answers < 9223372036854775807 → (next : Draft)
    → (stands : JointStands old (line text) next) → IsJointLine text (next_joint old, stands.places)
joint_has old text few next stands = (
  same_line text (joint_text (next_joint old) stands.places) stands.text_is,
  omega (arith, few),
  stands.some,
  stands.rise,
)

pub joint_stands : (old : Draft) (text : List ℕ) (number : ℕ) (places : List (ℕ × ℕ)) → TablesAreNext old
    → old.told.tables ≡ [] → IsJointLine text (number, places) → number ≡ next_joint old
    → (joint_answers : List ToldJoint)
    → joint_answers ≡ old.told.joint_answers ++ record { members = [] } ∷ []
    → (due : Due) → due ≡ members_due places
    → JointStands old (line text) (record { told = record old.told { joint_answers = joint_answers }; due = due })
joint_stands old text number places is_due no_tables is numbered joint_answers grown due members = record {
  places = places;
  free = is_due.free;
  told = is_due.told;
  no_tables = no_tables;
  text_is = ap line (is.0 ∙ ap (λ n. joint_text n places) numbered);
  some = is.2;
  rise = is.3;
  next_is = λ i. record { told = record old.told { joint_answers = grown i }; due = members i };
}

pub other_joint : (number other : ℕ) (places own : List (ℕ × ℕ))
    → ◌≡◌ {A = ℕ × List (ℕ × ℕ)} (number, places) (other, own) → number ≡ other
other_joint number other places own e = ap (λ (x : ℕ × List (ℕ × ℕ)). x.0) e
