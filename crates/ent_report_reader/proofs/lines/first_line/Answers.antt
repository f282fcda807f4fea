use Rattle.ent_report_reader.proofs.Fronts.{first_none, first_some}
use Rattle.ent_report_reader.proofs.lines.first_line.Goals as goal

pub returns-clause-some : goal.returns-clause-some
returns-clause-some c = first_some c.args.text.now c.split_once.result c.split_once.ensures.cases

pub returns-clause-none : goal.returns-clause-none
returns-clause-none c = first_none c.args.text.now c.split_once.result c.split_once.ensures.cases
