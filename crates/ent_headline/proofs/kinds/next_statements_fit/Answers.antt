use Rattle.ent_headline.proofs.Fitted.{next_fits, job_fits}
use Rattle.ent_headline.proofs.kinds.next_statements_fit.Goals as goal

pub returns-clause-declared : goal.returns-clause-declared
returns-clause-declared c s member statement e reached there next =
    next_fits c.resolved_statements_fit.ensures.fits s reached member
    (c.host_variables_have_kinds.ensures s member e reached there) statement next

pub returns-clause-lent : goal.returns-clause-lent
returns-clause-lent c s member statement e reached there next =
    job_fits s.opening.tables s.tables statement
    (next_fits c.resolved_statements_fit.ensures.fits s reached member
    (c.host_variables_have_kinds.ensures s member e reached there) statement next)
