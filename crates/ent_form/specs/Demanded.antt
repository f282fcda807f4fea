-- In which kind a written variable is demanded, without a walk.
use Rattle.std.specs.Prelude.{◌≡◌, List, [], ◌∷◌, ◌++◌, Option, Some, None, if◌then◌else◌}
use Rattle.std.specs.List.{AllByRecursion, zip}
use Rattle.ent_value.specs.declared.value.Kind.{Kind}
use Rattle.ent_tree.specs.declared.entangled.Condition.{Condition}
use Rattle.ent_tree.specs.declared.entangled.Condition.TheVariants as conditions
use Rattle.ent_tree.specs.declared.entangled.Term.{Term}
use Rattle.ent_tree.specs.declared.entangled.Term.TheVariants as terms
use Rattle.ent_semantics.specs.Database.{Name, same_name}
use Rattle.ent_form.specs.declared.catalogue.TableSchema.{TableSchema}
use Rattle.ent_form.specs.declared.fault.FormFault.{FormFault}
use Rattle.ent_form.specs.Kinds.{Bound}
use Rattle.ent_form.specs.AllFaults.{select_faults}
use Rattle.ent_form.specs.EntangledFaults.{select_kinds}

-- the terms of a tuple, each beside the kind that it is to be of; none where the sub-select has a fault
abbrev pub sides_unless : List FormFault → List (Option Kind) → List Term → List (Option Kind × Term)
sides_unless [] kinds all = zip kinds all
sides_unless (fault ∷ more) kinds all = []

abbrev pub condition_sides : List TableSchema → Bound → Condition → List (Option Kind × Term)
condition_sides tables bound (conditions.InSelect tuple select) =
    sides_unless (select_faults tables bound select) (select_kinds tables bound select) tuple.terms
condition_sides tables bound (conditions.InAnswer tuple relation) = []
condition_sides tables bound (conditions.Test test) = []

-- the kind that a term demands of a variable, where it is this variable and its kind is known
abbrev pub kind_demanded : Name → Option Kind → Term → Option Kind
kind_demanded name kind (terms.Value value) = None
kind_demanded name kind (terms.Variable variable) = if same_name variable.name name then kind else None

-- one of the terms demands the variable in this kind, and none before it demands it in any
abbrev pub IsDemandedFirst : Name → Kind → List (Option Kind × Term) → Type 0
IsDemandedFirst name kind sides =
    (before : List (Option Kind × Term)) × (side : Option Kind × Term) × (after : List (Option Kind × Term))
    × (sides ≡ before ++ side ∷ after) × (kind_demanded name side.0 side.1 ≡ Some kind)
    × AllByRecursion (λ earlier. kind_demanded name earlier.0 earlier.1 ≡ None) before
