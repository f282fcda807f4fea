use Rattle.ent_protocol_laws.proofs.Ready.{turn_taken}
use Rattle.ent_protocol_laws.proofs.endings_law.ready_members_are_answered.Goals as goal

pub returns : goal.returns
returns g c forms s tx turn reply new ready step = turn_taken s tx turn reply new ready step
