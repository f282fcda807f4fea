-- The joint answers of a history that can be told stand.
use Rattle.std.proofs.Common.{◌≡◌, ◌≢◌, ◌+◌, ℕ, List, [], ◌∷◌, ◌++◌, map, length, refl, sym, ap, subst, ◌∙◌, arith}
use Rattle.std.proofs.Common.{codes, flat_map}
use Rattle.std.specs.List.{AllByRecursion}
use Rattle.std.specs.Fmt.{decimal}
use Rattle.std.proofs.lemmas.List.{append-nil, append_assoc}
use Rattle.ent_book.specs.Report.{line}
use Rattle.ent_history.specs.declared.history.History.{History}
use Rattle.ent_history.specs.declared.history.ToldJoint.{ToldJoint}
use Rattle.ent_history.specs.declared.history.ToldMember.{ToldMember}
use Rattle.ent_history.specs.Text.{joint_text, joints_text, told_member_text}
use Rattle.ent_history.specs.Draft.{Draft, Members, TransactionsAreTold, members_due, on_last}
use Rattle.ent_history.specs.Joints.{BindsRight, JointStands, MemberStands, member_binds, with_member}
use Rattle.ent_history.specs.Stands as stands
use Rattle.ent_report_laws.specs.Tellable.{IsJointTold, IsMemberTold}
use Rattle.ent_report_laws.proofs.Begun.{place_of, same_places, whole_joint}
use Rattle.ent_report_laws.proofs.Lists.{changed, longer}
use Rattle.ent_report_laws.proofs.Reaching.{Leads, behind_it, first_piece, stay, to_draft}
use Rattle.ent_report_laws.proofs.ToTransactions.{at_free}

abbrev pub with_joints : History → List ToldJoint → History
with_joints told joints = record told { joint_answers = joints }

-- a joint answer of these members
abbrev joined : List ToldMember → ToldJoint
joined members = record { members = members }

-- the history is of the scripts and the opening that a whole one has
abbrev IsPartOf : History → History → Type 0
IsPartOf told full = (told.opening ≡ full.opening) × (told.scripts ≡ full.scripts)

binds_here : (told full : History) (one : ToldMember) → IsPartOf told full → IsMemberTold full one
    → BindsRight (member_binds told one.member.tx one.member.place) one.variables one.member.grounding
binds_here told full one part fit =
    subst (λ binds. BindsRight binds one.variables one.member.grounding) (sym same) fit.binds
  where
    same : member_binds told one.member.tx one.member.place ≡ member_binds full one.member.tx one.member.place
    same = λ i. member_binds (record told { opening = part.0 i; scripts = part.1 i }) one.member.tx one.member.place

module _ (full : History) (front : List ToldJoint) where
  members_lead : (told : History) (done rest : List ToldMember) → IsPartOf told full
      → told.joint_answers ≡ front ++ joined done ∷ [] → AllByRecursion (IsMemberTold full) rest
      → Leads (record { told = told; due = members_due (map place_of rest) }) (flat_map told_member_text rest)
      (at_free (with_joints told (front ++ joined (done ++ rest) ∷ [])))
  members_lead told done [] part e fit =
      stay (at_free told) (at_free (with_joints told (front ++ joined (done ++ []) ∷ [])))
      (λ i. at_free (with_joints told
      ((e ∙ ap (λ (members : List ToldMember). front ++ joined members ∷ []) (sym (append-nil done))) i)))
  members_lead told done (one ∷ more) part e fit =
      first_piece (record { told = told; due = Members one.member.tx one.member.place (map place_of more) }) between
      (at_free (with_joints told (front ++ joined (done ++ one ∷ more) ∷ []))) (told_member_text one)
      (flat_map told_member_text more) (stands.Member stand)
      (to_draft between (at_free (with_joints told (front ++ joined ((done ++ one ∷ []) ++ more) ∷ [])))
      (at_free (with_joints told (front ++ joined (done ++ one ∷ more) ∷ []))) (flat_map told_member_text more)
      (λ i. at_free (with_joints told (front ++ joined (append_assoc done (one ∷ []) more i) ∷ [])))
      (members_lead next (done ++ one ∷ []) more part
      (ap (on_last (with_member one)) e ∙ changed (with_member one) front (joined done)) fit.1))
    where
      next : History
      next = with_joints told (on_last (with_member one) told.joint_answers)

      between : Draft
      between = record { told = next; due = members_due (map place_of more) }

      stand : MemberStands
          (record { told = told; due = Members one.member.tx one.member.place (map place_of more) })
          (told_member_text one) between
      stand = record {
        tx = one.member.tx;
        place = one.member.place;
        more = map place_of more;
        variables = one.variables;
        values = one.member.grounding;
        due = refl;
        text_is = refl;
        paired = fit.0.paired;
        are_values = fit.0.are_values;
        binds = binds_here told full one part fit.0;
        next_is = refl;
      }

some_places : (members : List ToldMember) → members ≢ [] → map place_of members ≢ []
some_places [] some e = some refl
some_places (member ∷ more) some e = cc (e)

joint_lead : (full told : History) (number : ℕ) (joint : ToldJoint) → IsPartOf told full → TransactionsAreTold told
    → told.tables ≡ [] → number ≡ length told.joint_answers + 1 → IsJointTold full joint
    → Leads (at_free told) (whole_joint number joint) (at_free (with_joints told (told.joint_answers ++ joint ∷ [])))
joint_lead full told number joint part all tables at fit =
    first_piece (at_free told) (record { told = next; due = members_due (map place_of joint.members) })
    (at_free (with_joints told (told.joint_answers ++ joint ∷ []))) (joint_text number joint)
    (flat_map told_member_text joint.members) (stands.Joint stand)
    (members_lead full told.joint_answers next [] joint.members part refl fit.members)
  where
    next : History
    next = with_joints told (told.joint_answers ++ joined [] ∷ [])

    stand : JointStands (at_free told) (joint_text number joint)
        (record { told = next; due = members_due (map place_of joint.members) })
    stand = record {
      places = map place_of joint.members;
      free = refl;
      told = record { each = all.each; answered = all.answered };
      no_tables = tables;
      text_is =
          ap (λ (n : ℕ). joint_text n joint) at
          ∙ ap (λ places. line (codes "joint " ++ (decimal (length told.joint_answers + 1) ++ places)))
          (sym (same_places joint.members));
      some = some_places joint.members fit.some;
      rise = fit.rise;
      next_is = refl;
    }

pub joints_lead : (full told : History) (number : ℕ) (rest : List ToldJoint) → IsPartOf told full
    → TransactionsAreTold told → told.tables ≡ [] → number ≡ length told.joint_answers + 1
    → AllByRecursion (IsJointTold full) rest
    → Leads (at_free told) (joints_text number rest) (at_free (with_joints told (told.joint_answers ++ rest)))
joints_lead full told number [] part all tables at fit =
    stay (at_free told) (at_free (with_joints told (told.joint_answers ++ [])))
    (λ i. at_free (with_joints told (sym (append-nil told.joint_answers) i)))
joints_lead full told number (joint ∷ more) part all tables at fit =
    behind_it (at_free told) (at_free next) (at_free (with_joints told (told.joint_answers ++ joint ∷ more)))
    (whole_joint number joint) (joints_text (number + 1) more)
    (joint_lead full told number joint part all tables at fit.0)
    (to_draft (at_free next) (at_free (with_joints told ((told.joint_answers ++ joint ∷ []) ++ more)))
    (at_free (with_joints told (told.joint_answers ++ joint ∷ more))) (joints_text (number + 1) more)
    (λ i. at_free (with_joints told (append_assoc told.joint_answers (joint ∷ []) more i)))
    (joints_lead full next (number + 1) more part (record { each = all.each; answered = all.answered }) tables
    (omega (arith, at, longer told.joint_answers joint)) fit.1))
  where
    next : History
    next = with_joints told (told.joint_answers ++ joint ∷ [])
