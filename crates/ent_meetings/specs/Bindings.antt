-- What bindings of host variables say.
use Rattle.std.specs.Prelude.{List, [], ◌∷◌, if◌then◌else◌}
use Rattle.std.specs.Option.{option_copied}
use Rattle.ent_semantics.specs.Database.{Environment, same_name, nothing_bound}
use Rattle.ent_meetings.specs.declared.known.ValueBinding.{ValueBinding}
use Rattle.ent_meetings.specs.declared.known.Known.{Known}

-- one binding more: its host variable is known, or forgotten
abbrev pub with_binding : Environment → ValueBinding → Environment
with_binding known binding other =
    if same_name binding.variable.now other then option_copied binding.value else known other

abbrev pub with_bindings : Environment → List ValueBinding → Environment
with_bindings known [] = known
with_bindings known (binding ∷ more) = with_bindings (with_binding known binding) more

-- of the bindings of one variable the last counts
abbrev pub known_of : Known → Environment
known_of known = with_bindings nothing_bound known.bindings.items
