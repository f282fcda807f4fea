use Rattle.std.proofs.Common.{ap, map, List, Some, None, ◌∙◌}
use Rattle.std.specs.Option.{option_and_then}
use Rattle.ent_history.specs.Told.{joint_answer_of}
use Rattle.ent_history.specs.declared.history.ToldMember.{ToldMember}
use Rattle.ent_semantics.specs.Serial.{numbered}
use Rattle.ent_semantics.specs.declared.book.JointAnswer.{JointAnswer}
use Rattle.ent_semantics.proofs.Numbered.{numbered_map}
use Rattle.ent_check.proofs.groundings.member_in.Goals as goal

pub returns-in-Some : goal.returns-in-Some
returns-in-Some c =
    c.member_numbered.ensures
    ∙ ap (λ (members : List ToldMember). numbered (map (λ (told : ToldMember). told.member) members) c.args.number)
    c.as_slice.ensures
    ∙ ap (option_and_then (λ (joint : JointAnswer). numbered joint.members c.args.number))
    (numbered_map joint_answer_of c.args.joints.now c.args.joint (Some c.in-Some.told.now) c.in-Some.ensures)

pub returns-in-None : goal.returns-in-None
returns-in-None c =
    ap (option_and_then (λ (joint : JointAnswer). numbered joint.members c.args.number))
    (numbered_map joint_answer_of c.args.joints.now c.args.joint None c.in-None.ensures)
