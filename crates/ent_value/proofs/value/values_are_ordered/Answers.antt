use Rattle.ent_value.specs.Order.{values_total, exact_values}
use Rattle.ent_value.proofs.value.values_are_ordered.Goals as goal

pub returns-clause-total : goal.returns-clause-total
returns-clause-total c = values_total

pub returns-clause-exact : goal.returns-clause-exact
returns-clause-exact c = exact_values
