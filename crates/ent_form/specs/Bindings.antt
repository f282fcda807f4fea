-- Host variables that are bound, as a list.
use Rattle.std.specs.Prelude.{List, [], ◌∷◌}
use Rattle.ent_form.specs.declared.binding.KindBinding.{KindBinding}
use Rattle.ent_form.specs.declared.binding.Bindings.{Bindings}
use Rattle.ent_form.specs.Kinds.{Bound, none_bound, with_kind}

-- what is bound after one binding after the other
abbrev pub bound_from : Bound → List KindBinding → Bound
bound_from bound [] = bound
bound_from bound (binding ∷ more) = bound_from (with_kind bound binding.name binding.kind) more

abbrev pub bound_in : Bindings → Bound
bound_in bindings = bound_from none_bound bindings.bindings
