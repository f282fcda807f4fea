use Rattle.ent_bound.specs.Bound.{bound_value}
use Rattle.ent_sql_laws.proofs.Kept.{script, bound_is_unused, others_are_used, as_much_is_set}
use Rattle.ent_sql_laws.proofs.bound_law.bound_variables_are_used_no_more.Goals as goal

pub returns-clause-values : goal.returns-clause-values
returns-clause-values c = λ variables x. script (bound_value variables) x

pub returns-clause-bound : goal.returns-clause-bound
returns-clause-bound c = bound_is_unused

pub returns-clause-others : goal.returns-clause-others
returns-clause-others c = others_are_used

pub returns-clause-set : goal.returns-clause-set
returns-clause-set c = as_much_is_set
