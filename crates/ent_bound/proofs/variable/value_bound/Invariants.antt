use Rattle.std.proofs.Common.{◌≡◌, drop}
use Rattle.ent_bound.specs.Bound.{value_bound}
use Rattle.ent_bound.proofs.variable.value_bound.Given as goal

-- the name is looked for among the rest
abbrev pub invariant-loop-variable : goal.invariant-loop-variable
invariant-loop-variable l = value_bound (drop l.variable-index l.variables) l.name ≡ value_bound l.variables l.name
