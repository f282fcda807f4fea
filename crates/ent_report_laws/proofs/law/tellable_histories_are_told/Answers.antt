use Rattle.ent_report_laws.proofs.ToEnd.{told_by_text}
use Rattle.ent_report_laws.proofs.law.tellable_histories_are_told.Goals as goal

pub returns : goal.returns
returns c = told_by_text
