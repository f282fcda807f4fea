use Rattle.ent_protocol_laws.proofs.Attempts.{reached_within, stay_below}
use Rattle.ent_protocol_laws.proofs.standing_law.attempts_stay_within.Goals as goal

pub returns-clause-own : goal.returns-clause-own
returns-clause-own c h = reached_within

pub returns-clause-bound : goal.returns-clause-bound
returns-clause-bound c h forms s most reached asked few = stay_below most s few (reached_within forms s reached asked)
