use Rattle.ent_protocol_laws.proofs.Determined.{determined}
use Rattle.ent_protocol_laws.proofs.steps_law.events_are_determined.Goals as goal

pub returns-clause-state : goal.returns-clause-state
returns-clause-state g c forms s event reply other new another reached h k =
    (determined forms s event reply other new another c.components_are_classes.ensures
    (c.lent_jobs_stand_once.ensures forms s reached) (c.members_stand_by_number.ensures forms s reached) h k).0

pub returns-clause-reply : goal.returns-clause-reply
returns-clause-reply g c forms s event reply other new another reached h k =
    (determined forms s event reply other new another c.components_are_classes.ensures
    (c.lent_jobs_stand_once.ensures forms s reached) (c.members_stand_by_number.ensures forms s reached) h k).1
