use Rattle.std.proofs.Common.{sym, ap, subst, ◌∙◌}
use Rattle.ent_form.specs.OpeningFault.{opening_fault}
use Rattle.ent_semantics.specs.Book.{IsLegal}
use Rattle.ent_headline.proofs.run.finished_books_are_legal.Goals as goal

pub returns : goal.returns
returns c opening scripts book e finished =
    subst IsLegal (sym finished.is)
    (c.resolved_runs_are_legal.ensures finished.last (ap opening_fault finished.of_opening ∙ e)
    finished.finished.reached)
