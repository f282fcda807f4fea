use Rattle.ent_report_laws.proofs.Faults.{same_script}
use Rattle.ent_report_laws.proofs.opening_law.scripts_have_the_same_faults.Goals as goal

pub returns : goal.returns
returns c = same_script
