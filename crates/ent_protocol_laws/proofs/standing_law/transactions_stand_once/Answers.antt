use Rattle.ent_protocol_laws.proofs.Placed.{stand_once, reached_stand}
use Rattle.ent_protocol_laws.proofs.standing_law.transactions_stand_once.Goals as goal

pub returns-clause-once : goal.returns-clause-once
returns-clause-once c h forms s reached = stand_once s (reached_stand forms s reached)

pub returns-clause-bound : goal.returns-clause-bound
returns-clause-bound c h forms s reached = (reached_stand forms s reached).few
