use Rattle.ent_history.proofs.HeadLines.{heads_found, heads_again}
use Rattle.ent_history.proofs.section_laws.heads_are_read_as_written.Goals as goal

pub returns-clause-found : goal.returns-clause-found
returns-clause-found c = heads_found

pub returns-clause-only : goal.returns-clause-only
returns-clause-only c = heads_again
