-- The joint answers that a text tells can be told.
use Rattle.std.proofs.Common.{◌≡◌, ℕ, List, [], ◌∷◌, ◌++◌, length, map, sym, ap, subst}
use Rattle.std.specs.List.{AllByRecursion}
use Rattle.ent_tree.specs.declared.declaration.Create.{Create}
use Rattle.ent_tree.specs.declared.script.Script.{Script as Scripted}
use Rattle.ent_form.specs.Catalogue.{schemas_of}
use Rattle.ent_semantics.specs.Serial.{numbered}
use Rattle.ent_history.specs.declared.history.History.{History}
use Rattle.ent_history.specs.declared.history.ToldJoint.{ToldJoint}
use Rattle.ent_history.specs.declared.history.ToldMember.{ToldMember}
use Rattle.ent_history.specs.Draft.{Draft, Ended, blank, on_last}
use Rattle.ent_history.specs.Joints.{BindsRight, member_told, script_binds, with_member}
use Rattle.ent_history.specs.Parts.{IsValue}
use Rattle.ent_history.specs.Stands.{Stands, Heading, Opening, OpeningRow, Script, Tx, Answer, AnswerRow, Joint}
use Rattle.ent_history.specs.Stands.{Member, Table, TableRow, End, AllStand, Tells}
use Rattle.ent_lists.specs.Elements.{all_by, all_joined}
use Rattle.ent_report_laws.specs.Tellable.{IsJointTold, IsMemberTold}
use Rattle.ent_report_laws.proofs.Begun.{place_of}
use Rattle.ent_report_laws.proofs.Jointly.{IsJoined}
use Rattle.ent_report_laws.proofs.Kept.{IsSound}

-- the line of a member binds what its statement does
record IsBound (creates : List Create) (scripts : List Scripted) (one : ToldMember) : Type 0 where
  paired : length one.variables ≡ length one.member.grounding
  are_values : AllByRecursion IsValue one.member.grounding
  binds : BindsRight (script_binds (schemas_of creates) (numbered scripts one.member.tx) one.member.place)
      one.variables one.member.grounding

abbrev AreBoundIn : List Create → List Scripted → ToldJoint → Type 0
AreBoundIn creates scripts joint = AllByRecursion (IsBound creates scripts) joint.members

abbrev AreBound : Draft → Type 0
AreBound draft =
    AllByRecursion (AreBoundIn draft.told.opening.tables draft.told.scripts) draft.told.joint_answers

last_changed : {X : Type 0} (P : X → Type 0) (f : X → X) (xs : List X) → ((x : X) → P x → P (f x))
    → AllByRecursion P xs → AllByRecursion P (on_last f xs)
last_changed P f [] to all = tt
last_changed P f (x ∷ []) to all = (to x all.0, tt)
last_changed P f (x ∷ y ∷ more) to all = (all.0, last_changed P f (y ∷ more) to all.1)

bound_kept : (draft : Draft) (piece : List ℕ) (next : Draft) → AreBound draft → Stands draft piece next
    → AreBound next
bound_kept draft piece next bound (Heading s) = subst AreBound (sym s.next_is) bound
bound_kept draft piece next bound (Opening s) =
    subst AreBound (sym s.next_is)
    (subst (AllByRecursion (AreBoundIn (draft.told.opening.tables ++ s.create ∷ []) draft.told.scripts))
    (sym s.nothing_below.joint_answers) tt)
bound_kept draft piece next bound (OpeningRow s) = subst AreBound (sym s.next_is) bound
bound_kept draft piece next bound (Script s) =
    subst AreBound (sym s.next_is)
    (subst (AllByRecursion (AreBoundIn draft.told.opening.tables (draft.told.scripts ++ s.script ∷ [])))
    (sym s.is_next.nothing_below.joint_answers) tt)
bound_kept draft piece next bound (Tx s) = subst AreBound (sym s.next_is) bound
bound_kept draft piece next bound (Answer s) = subst AreBound (sym s.next_is) bound
bound_kept draft piece next bound (AnswerRow s) = subst AreBound (sym s.next_is) bound
bound_kept draft piece next bound (Joint s) =
    subst AreBound (sym s.next_is)
    (all_joined (AreBoundIn draft.told.opening.tables draft.told.scripts) draft.told.joint_answers
    (record { members = [] } ∷ []) bound (tt, tt))
bound_kept draft piece next bound (Member s) =
    let one = member_told s.tx s.place s.variables s.values in
    subst AreBound (sym s.next_is)
    (last_changed (AreBoundIn draft.told.opening.tables draft.told.scripts) (with_member one)
    draft.told.joint_answers
    (λ joint so. all_joined (IsBound draft.told.opening.tables draft.told.scripts) joint.members (one ∷ []) so
    (record { paired = s.paired; are_values = s.are_values; binds = s.binds }, tt))
    bound)
bound_kept draft piece next bound (Table s) = subst AreBound (sym s.next_is) bound
bound_kept draft piece next bound (TableRow s) = subst AreBound (sym s.next_is) bound
bound_kept draft piece next bound (End s) = subst AreBound (sym s.next_is) bound

all_bound : (pieces : List (List ℕ)) (draft next : Draft) → AreBound draft → AllStand draft pieces next → AreBound next
all_bound [] draft next bound e = subst AreBound e bound
all_bound (piece ∷ pieces) draft next bound stand =
    all_bound pieces stand.0 next (bound_kept draft piece stand.0 bound stand.1) stand.2

together : (history : History) (joints : List ToldJoint) → AllByRecursion IsJoined joints
    → AllByRecursion (AreBoundIn history.opening.tables history.scripts) joints
    → AllByRecursion (IsJointTold history) joints
together history [] joined bound = tt
together history (joint ∷ more) joined bound = (
  record {
    some = λ e. joined.0.0 (ap (map place_of) e);
    rise = joined.0.1;
    members = all_by (IsBound history.opening.tables history.scripts) (IsMemberTold history) joint.members
        (λ one is. record { paired = is.paired; are_values = is.are_values; binds = is.binds }) bound.0;
  },
  together history more joined.1 bound.1,
)

pub joints_are_told : (text : List ℕ) (history : History) → IsSound (record { told = history; due = Ended })
    → Tells text history → AllByRecursion (IsJointTold history) history.joint_answers
joints_are_told text history so tells =
    together history history.joint_answers so.joint
    (all_bound tells.0 blank (record { told = history; due = Ended }) tt tells.2)
