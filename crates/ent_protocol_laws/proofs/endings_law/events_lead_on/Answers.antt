use Rattle.ent_protocol_laws.proofs.EndingOnward.{joined, leads_to_reached}
use Rattle.ent_protocol_laws.proofs.endings_law.events_lead_on.Goals as goal

pub returns-clause-joined : goal.returns-clause-joined
returns-clause-joined g c = joined

pub returns-clause-reached : goal.returns-clause-reached
returns-clause-reached g c forms n first last reached leads =
    leads_to_reached forms c.steps_go_on.ensures n first last reached leads
