use Rattle.ent_report_laws.proofs.OpeningFaultless.{told_faultless}
use Rattle.ent_report_laws.proofs.opening_law.told_openings_are_faultless.Goals as goal

pub returns : goal.returns
returns c = told_faultless
