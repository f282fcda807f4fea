use Rattle.ent_text.proofs.Rows.{row_found}
use Rattle.ent_text.proofs.line_laws.rows_are_read_as_written.Goals as goal

pub returns-clause-found : goal.returns-clause-found
returns-clause-found c = row_found
