use Rattle.ent_program_laws.proofs.Closed.{are_closed}
use Rattle.ent_program_laws.proofs.meeting_law.committed_scripts_are_closed.Goals as goal

pub returns : goal.returns
returns c book legal are_some together = are_closed book legal are_some together
