use Rattle.ent_form.proofs.Statements.{statement_same}
use Rattle.ent_form.proofs.statement_law.resolved_means_the_same.Goals as goal

pub returns : goal.returns
returns c = λ creates tables environment valuation bound after statement form wide apart e l.
    statement_same creates tables wide apart environment valuation bound after statement form e l
