use Rattle.ent_protocol_laws.proofs.Used.{ended_uses, no_more}
use Rattle.ent_protocol_laws.proofs.endings_law.ended_runs_use_up_tries.Goals as goal

pub returns-clause-bound : goal.returns-clause-bound
returns-clause-bound g c forms s event reply new reached asks step none =
    no_more forms s event reply new (c.attempts_stay_within.ensures.own forms s reached asks)
    (c.members_stand_by_number.ensures forms s reached) step none

pub returns-clause-ended : goal.returns-clause-ended
returns-clause-ended g c forms s members new step = ended_uses forms s members new step
