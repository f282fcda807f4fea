use Rattle.ent_form.proofs.Demands.{demanded_first}
use Rattle.ent_form.proofs.fault_law.variables_are_demanded_first.Goals as goal

pub returns : goal.returns
returns c = demanded_first
