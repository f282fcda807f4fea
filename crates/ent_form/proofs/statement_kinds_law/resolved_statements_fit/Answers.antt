use Rattle.ent_form.proofs.Fitted.{statement_declared, closed_names, statement_fits}
use Rattle.ent_form.proofs.statement_kinds_law.resolved_statements_fit.Goals as goal

pub returns-clause-declared : goal.returns-clause-declared
returns-clause-declared c = λ schemas bound after statement form e.
    statement_declared schemas bound statement form after e

pub returns-clause-closed : goal.returns-clause-closed
returns-clause-closed c = closed_names

pub returns-clause-fits : goal.returns-clause-fits
returns-clause-fits c = λ schemas bound after statement form environment e ordinary have.
    statement_fits schemas bound environment have statement form after e ordinary
