use Rattle.ent_program_laws.proofs.Alike.{rows_may_meet}
use Rattle.ent_program_laws.proofs.meeting_law.patterns_of_one_row_may_meet.Goals as goal

pub returns : goal.returns
returns c demand offer fact first second = rows_may_meet demand offer fact first second
