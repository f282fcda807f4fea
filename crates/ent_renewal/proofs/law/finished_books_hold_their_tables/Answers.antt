use Rattle.ent_renewal.proofs.Finished.{book_held}
use Rattle.ent_renewal.proofs.law.finished_books_hold_their_tables.Goals as goal

pub returns : goal.returns
returns c = book_held c.resolved_runs_keep_kinds.ensures
