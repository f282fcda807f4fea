-- A script in which values that a caller binds stand in the place of host variables.
use Rattle.std.specs.Prelude.{List, Option, Some, None, option_map}
use Rattle.std.specs.List.{find}
use Rattle.ent_value.specs.declared.value.Value.{Value}
use Rattle.ent_tree.specs.declared.operand.Identifier.{Identifier}
use Rattle.ent_tree.specs.declared.operand.ValueSpecification.{ValueSpecification}
use Rattle.ent_tree.specs.declared.operand.ValueSpecification.TheVariants as specifications
use Rattle.ent_tree.specs.declared.script.Script.{Script}
use Rattle.ent_semantics.specs.Database.{Name, same_name}
use Rattle.ent_bound.specs.Over.{script_over}
use Rattle.ent_bound.specs.declared.variable.BoundVariable.{BoundVariable}

-- the value that is bound to a name, by the first variable of that name
abbrev pub value_bound : List BoundVariable → Name → Option Value
value_bound variables name =
    option_map (λ variable. variable.value) (find (λ variable. same_name variable.name name) variables)

-- a literal where the host variable stood, if a value is bound to its name
abbrev pub literal_or : Identifier → Option Value → ValueSpecification
literal_or identifier (Some value) = specifications.Literal (record { value = value; place = identifier.place })
literal_or identifier None = specifications.HostVariable identifier

abbrev pub bound_value : List BoundVariable → ValueSpecification → ValueSpecification
bound_value variables (specifications.Literal literal) = specifications.Literal literal
bound_value variables (specifications.HostVariable identifier) =
    literal_or identifier (value_bound variables identifier.name)

-- the same script, but for the host variables of these names: a literal of the bound value stands where each stood
abbrev pub bound_script : List BoundVariable → Script → Script
bound_script variables = script_over (bound_value variables)
