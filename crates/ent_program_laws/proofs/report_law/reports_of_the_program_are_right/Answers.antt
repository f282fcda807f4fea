use Rattle.ent_form.specs.OpeningFault.{opening_fault}
use Rattle.ent_form.specs.InputFault.{scripts_fault}
use Rattle.ent_form.proofs.ResolvedSteps.{nothing_first}
use Rattle.ent_program_laws.proofs.report_law.reports_of_the_program_are_right.Goals as goal

pub returns : goal.returns
returns c bytes input book is served short =
    c.reports_of_finished_books_are_right.ensures bytes input book is.read.reads is.read.text.1
    (nothing_first (opening_fault input.opening) (scripts_fault input.opening input.scripts) is.formed) served.finished
    short
