use Rattle.ent_value.specs.Order.{rows_total, exact_rows}
use Rattle.ent_value.proofs.row.rows_are_ordered.Goals as goal

pub returns-clause-total : goal.returns-clause-total
returns-clause-total c = rows_total

pub returns-clause-exact : goal.returns-clause-exact
returns-clause-exact c = exact_rows
