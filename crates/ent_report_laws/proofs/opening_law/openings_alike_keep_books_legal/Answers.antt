use Rattle.ent_report_laws.proofs.Legal.{still_legal}
use Rattle.ent_report_laws.proofs.opening_law.openings_alike_keep_books_legal.Goals as goal

pub returns : goal.returns
returns c = still_legal
