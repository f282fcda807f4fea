use Rattle.ent_protocol_laws.proofs.ByNumber.{reached_by_number}
use Rattle.ent_protocol_laws.proofs.standing_law.members_stand_by_number.Goals as goal

pub returns : goal.returns
returns c h = reached_by_number
