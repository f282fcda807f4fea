use Rattle.ent_text.proofs.Numbers.{number_found}
use Rattle.ent_text.proofs.line_laws.numbers_are_read_as_written.Goals as goal

pub returns-clause-found : goal.returns-clause-found
returns-clause-found c = number_found
