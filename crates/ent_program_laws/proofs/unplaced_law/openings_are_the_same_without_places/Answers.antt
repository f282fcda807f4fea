use Rattle.ent_program_laws.proofs.Books.{opening_same, table_same}
use Rattle.ent_program_laws.proofs.unplaced_law.openings_are_the_same_without_places.Goals as goal

pub returns-clause-table : goal.returns-clause-table
returns-clause-table c = table_same

pub returns-clause-whole : goal.returns-clause-whole
returns-clause-whole c = opening_same
