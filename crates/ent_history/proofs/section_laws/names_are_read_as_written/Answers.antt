use Rattle.ent_history.proofs.Names.{name_found, name_again}
use Rattle.ent_history.proofs.section_laws.names_are_read_as_written.Goals as goal

pub returns-clause-found : goal.returns-clause-found
returns-clause-found c = name_found

pub returns-clause-only : goal.returns-clause-only
returns-clause-only c = name_again
