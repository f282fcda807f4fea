use Rattle.ent_protocol_laws.proofs.Counted.{reached_counted}
use Rattle.ent_protocol_laws.proofs.standing_law.transactions_are_counted.Goals as goal

pub returns : goal.returns
returns c h = reached_counted
