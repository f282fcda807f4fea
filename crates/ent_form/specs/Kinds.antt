-- The kinds that host variables are bound to, as they are known from a script's text.
use Rattle.std.specs.Prelude.{List, [], ◌∷◌, Option, Some, None, if◌then◌else◌}
use Rattle.ent_value.specs.declared.value.Kind.{Kind}
use Rattle.ent_semantics.specs.Database.{Name, same_name}

-- the kinds of the names that are bound
abbrev pub Bound : Type 0
Bound = Name → Option Kind

abbrev pub none_bound : Bound
none_bound name = None

abbrev pub with_kind : Bound → Name → Kind → Bound
with_kind bound name kind other = if same_name name other then Some kind else bound other

-- one name after the other
abbrev pub with_kinds : Bound → List (Name × Kind) → Bound
with_kinds bound [] = bound
with_kinds bound (binding ∷ more) = with_kinds (with_kind bound binding.0 binding.1) more
