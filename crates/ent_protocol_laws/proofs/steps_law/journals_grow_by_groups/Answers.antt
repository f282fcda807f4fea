use Rattle.ent_protocol_laws.proofs.Journals.{all_journals}
use Rattle.ent_protocol_laws.proofs.steps_law.journals_grow_by_groups.Goals as goal

pub returns : goal.returns
returns g c = all_journals
