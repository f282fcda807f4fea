use Rattle.std.proofs.Common.{◌∷◌, [], ◌++◌, ◌∙◌, ap, List}
use Rattle.ent_history.specs.declared.history.ToldJoint.{ToldJoint}
use Rattle.ent_history.specs.declared.history.ToldMember.{ToldMember}
use Rattle.ent_history.specs.Joints.{with_member}
use Rattle.ent_report_reader.proofs.Ends.{put_last, put_none}
use Rattle.ent_report_reader.proofs.members.put_member.Goals as goal

pub returns-in_ok-push-2 : goal.returns-in_ok-push-2
returns-in_ok-push-2 c =
    put_last (with_member c.args.member) c.args.joint_answers.now c.push-in-Some.new.self c.take_last.new.list
    c.in-Some.joint c.in-Some.ensures.list
    (c.in_ok-push-2.ensures.ok
    ∙ ap (λ (members : List ToldMember). let joint : ToldJoint = record { members = members } in
    c.take_last.new.list ++ joint ∷ []) c.in_ok-push.ensures.ok)

pub returns-in_default : goal.returns-in_default
returns-in_default c =
    put_none (with_member c.args.member) c.args.joint_answers.now c.take_last.new.list c.in_default.ensures.list
    c.in_default.ensures.none
