use Rattle.ent_bound.proofs.Itself.{nothing_bound}
use Rattle.ent_sql_laws.proofs.bound_law.nothing_bound_changes_nothing.Goals as goal

pub returns : goal.returns
returns c = nothing_bound
