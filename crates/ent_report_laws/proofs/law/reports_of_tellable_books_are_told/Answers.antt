use Rattle.std.proofs.Common.{List, ℕ, sym, subst}
use Rattle.ent_history.specs.Told.{told_by}
use Rattle.ent_history.specs.Stands.{Tells}
use Rattle.ent_report_laws.proofs.ToEnd.{told_by_text}
use Rattle.ent_report_laws.proofs.law.reports_of_tellable_books_are_told.Goals as goal

pub returns : goal.returns
returns c book numbers can =
    subst (λ (text : List ℕ). Tells text (told_by book)) (sym (c.reports_tell_of_books.ensures book numbers))
    (told_by_text (told_by book) can)
