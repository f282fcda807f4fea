use Rattle.ent_report_reader.proofs.WholeRead.{read_by}
use Rattle.ent_report_reader.proofs.report.read_report.Goals as goal

pub returns-in-Ok : goal.returns-in-Ok
returns-in-Ok c =
    read_by c.args.text.now c.in-Ok.text.now c.read_text.result c.in-Ok.ensures.cases.0 c.in-Ok.ensures.cases.1
    c.read_text.ensures
