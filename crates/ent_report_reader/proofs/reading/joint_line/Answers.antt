use Rattle.std.proofs.Common.{◌∙◌, ap}
use Rattle.ent_history.specs.JointLines.{joint_at}
use Rattle.ent_report_reader.specs.Reading.{IsJointLine}
use Rattle.ent_report_reader.proofs.LinesRead.{reads}
use Rattle.ent_report_reader.proofs.reading.joint_line.Goals as goal

pub returns : goal.returns
returns c =
    let known = c.joints_are_read_as_written.ensures in
    reads (IsJointLine c.args.text.now) (joint_at c.args.text.now) c.joint.result
    (λ x h. known.found c.args.text.now x.0 x.1 h)
    (λ x is. ap joint_at is.0 ∙ known.only x.0 x.1 is.1 is.2 is.3) c.joint.ensures
