use Rattle.std.proofs.Common.{sym, ◌∙◌}
use Rattle.ent_report_reader.proofs.ThingLines.{members_so_far_last, members_so_far_none}
use Rattle.ent_report_reader.proofs.located.members_so_far.Goals as goal

pub returns-in-Some : goal.returns-in-Some
returns-in-Some c =
    c.len.ensures ∙ members_so_far_last c.args.joint_answers.now c.in-Some.joint.now (sym c.in-Some.ensures)

pub returns-in-None : goal.returns-in-None
returns-in-None c = sym (members_so_far_none c.args.joint_answers.now (sym c.in-None.ensures))
