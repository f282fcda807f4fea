use Rattle.ent_program_laws.proofs.Finished.{book_is_read}
use Rattle.ent_program_laws.proofs.finished_law.reports_of_finished_books_are_right.Goals as goal

pub returns : goal.returns
returns c text input book reads characters opened finished short =
    let legal = c.finished_books_are_legal.ensures input.opening input.scripts book opened finished in
    let reported = c.finished_books_can_be_reported.ensures text input book reads opened finished short in
    c.reports_of_legal_books_are_right.ensures book legal reported
    (c.reports_over_texts_are_of_characters.ensures text book (book_is_read text input book reads finished) characters
    legal reported)
