use Rattle.ent_form.proofs.Unset.{unset}
use Rattle.ent_form.proofs.fault_law.unbound_is_unset.Goals as goal

pub returns : goal.returns
returns c = unset
