use Rattle.ent_protocol_laws.proofs.Lent.{reached_lent}
use Rattle.ent_protocol_laws.proofs.standing_law.lent_jobs_stand_once.Goals as goal

pub returns : goal.returns
returns c h = reached_lent
