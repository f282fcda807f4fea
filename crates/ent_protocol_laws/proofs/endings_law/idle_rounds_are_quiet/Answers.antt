use Rattle.ent_protocol_laws.proofs.Idle.{quiet_ends, round_is_quiet}
use Rattle.ent_protocol_laws.proofs.endings_law.idle_rounds_are_quiet.Goals as goal

pub returns-clause-quiet : goal.returns-clause-quiet
returns-clause-quiet g c forms s reached round =
    round_is_quiet forms s (c.transactions_stand_once.ensures.once forms s reached)
    (c.members_stand_by_number.ensures forms s reached) round

pub returns-clause-ends : goal.returns-clause-ends
returns-clause-ends g c forms s reply new quiet on step = quiet_ends s reply new quiet on step
