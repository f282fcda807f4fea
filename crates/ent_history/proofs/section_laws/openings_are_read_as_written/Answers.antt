use Rattle.ent_history.proofs.Openings.{opening_found, opening_again}
use Rattle.ent_history.proofs.section_laws.openings_are_read_as_written.Goals as goal

pub returns-clause-found : goal.returns-clause-found
returns-clause-found c = opening_found

pub returns-clause-only : goal.returns-clause-only
returns-clause-only c = opening_again
