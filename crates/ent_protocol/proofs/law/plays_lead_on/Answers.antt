use Rattle.ent_protocol.proofs.Led.{plays_lead}
use Rattle.ent_protocol.proofs.law.plays_lead_on.Goals as goal

pub returns : goal.returns
returns c start forms opening events last plays = plays_lead forms opening events last plays
