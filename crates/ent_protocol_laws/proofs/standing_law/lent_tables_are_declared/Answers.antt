use Rattle.ent_protocol_laws.proofs.Declared.{reached_declared}
use Rattle.ent_protocol_laws.proofs.standing_law.lent_tables_are_declared.Goals as goal

pub returns : goal.returns
returns c h = reached_declared
