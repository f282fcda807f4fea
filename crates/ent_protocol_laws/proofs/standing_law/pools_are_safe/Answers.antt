use Rattle.ent_protocol_laws.proofs.Safe.{reached_safe}
use Rattle.ent_protocol_laws.proofs.standing_law.pools_are_safe.Goals as goal

pub returns : goal.returns
returns c h = reached_safe
