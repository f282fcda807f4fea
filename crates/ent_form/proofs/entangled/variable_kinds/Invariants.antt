use Rattle.std.proofs.Common.{◌≡◌, map, take}
use Rattle.ent_form.specs.Bindings.{bound_in}
use Rattle.ent_form.specs.Entangled.{kinds_of}
use Rattle.ent_form.proofs.entangled.variable_kinds.Given as goal

abbrev pub invariant-loop-name : goal.invariant-loop-name
invariant-loop-name l = l.found ≡ kinds_of (bound_in l.kinds) (map (λ name. name.now) (take l.name-index l.names))
