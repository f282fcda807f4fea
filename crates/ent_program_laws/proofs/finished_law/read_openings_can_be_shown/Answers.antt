use Rattle.ent_program_laws.proofs.FinishedOpened.{opening_read}
use Rattle.ent_program_laws.proofs.finished_law.read_openings_can_be_shown.Goals as goal

pub returns : goal.returns
returns c = opening_read c.reading_is_exact.ensures.input c.reader_is_exact.ensures.tokens
