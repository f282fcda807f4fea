use Rattle.std.proofs.Common.{ℕ, List, subst}
use Rattle.ent_book.specs.Report2.{report_2_text}
use Rattle.ent_history.specs.Told.{told_by}
use Rattle.ent_history.specs.Stands.{Tells}
use Rattle.ent_program_laws.specs.Unplaced.{unplaced_book}
use Rattle.ent_program_laws.proofs.verdict_law.reports_tell_books_apart.Goals as goal

pub returns : goal.returns
returns c one other legal reported its_legal its_reported same =
    let first = told_by (unplaced_book one) in
    let second = told_by (unplaced_book other) in
    c.texts_tell_of_one_history.ensures (report_2_text other) first second
    (subst (λ (text : List ℕ). Tells text first) same (c.reports_of_legal_books_are_told.ensures one legal reported).0)
    (c.reports_of_legal_books_are_told.ensures other its_legal its_reported).0
