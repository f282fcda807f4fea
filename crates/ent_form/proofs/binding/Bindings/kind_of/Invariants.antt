use Rattle.std.proofs.Common.{◌≡◌, take}
use Rattle.ent_form.specs.Kinds.{none_bound}
use Rattle.ent_form.specs.Bindings.{bound_from}
use Rattle.ent_form.proofs.binding.Bindings.kind_of.Given as goal

-- what the bindings so far say
abbrev pub invariant-loop-binding : goal.invariant-loop-binding
invariant-loop-binding l = l.found ≡ bound_from none_bound (take l.binding-index l.binding-items) l.name
