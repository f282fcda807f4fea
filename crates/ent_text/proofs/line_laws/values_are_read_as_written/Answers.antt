use Rattle.ent_text.proofs.Values.{value_found}
use Rattle.ent_text.proofs.line_laws.values_are_read_as_written.Goals as goal

pub returns-clause-found : goal.returns-clause-found
returns-clause-found c = value_found
