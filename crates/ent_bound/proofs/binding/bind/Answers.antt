use Rattle.ent_bound.proofs.Itself.{none_bound}
use Rattle.ent_bound.proofs.binding.bind.Goals as goal

pub returns-then-is_empty-clause-ok : goal.returns-then-is_empty-clause-ok
returns-then-is_empty-clause-ok c = none_bound c.args.variables.now c.args.script c.if-is_empty.ensures
