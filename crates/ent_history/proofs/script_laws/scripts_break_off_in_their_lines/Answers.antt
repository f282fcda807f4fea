use Rattle.ent_history.proofs.BreaksOff.{breaks_off_begins, begins_breaks_off}
use Rattle.ent_history.proofs.script_laws.scripts_break_off_in_their_lines.Goals as goal

pub returns : goal.returns
returns c = λ draft count lines unended next whole none few. (
  breaks_off_begins draft count lines unended whole none few,
  begins_breaks_off draft count lines unended next none,
)
