use Rattle.ent_history.specs.Told.{told_by}
use Rattle.ent_book.specs.Report2.{report_2_text}
use Rattle.ent_program_laws.specs.Unplaced.{unplaced_book}
use Rattle.ent_program_laws.proofs.right_law.reports_of_legal_books_are_right.Goals as goal

pub returns : goal.returns
returns c book legal reported characters =
    let told = c.reports_of_legal_books_are_told.ensures book legal reported in
    (c.reports_that_are_right_tell_of_legal_books.ensures (report_2_text book)).1
    (characters, told_by (unplaced_book book), told.0, told.1)
