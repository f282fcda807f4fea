use Rattle.ent_protocol_laws.proofs.Few.{reached_few}
use Rattle.ent_protocol_laws.proofs.standing_law.scripts_are_few.Goals as goal

pub returns : goal.returns
returns c h = reached_few
