use Rattle.ent_protocol_laws.proofs.Onward.{goes_on}
use Rattle.ent_protocol_laws.proofs.standing_law.steps_go_on.Goals as goal

pub returns : goal.returns
returns c h = goes_on
