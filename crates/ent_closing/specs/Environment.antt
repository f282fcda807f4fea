-- What bindings say of host variables.
use Rattle.std.specs.Prelude.{List}
use Rattle.ent_value.specs.declared.value.Value.{Value}
use Rattle.ent_semantics.specs.Database.{Name, Environment, nothing_bound, with_values}

-- of the bindings of one variable the last counts
abbrev pub environment_of : List (Name × Value) → Environment
environment_of bound = with_values nothing_bound bound
