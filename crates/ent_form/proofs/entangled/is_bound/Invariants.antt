use Rattle.std.proofs.Common.{◌≡◌, map, drop}
use Rattle.ent_semantics.specs.Database.{is_among}
use Rattle.ent_form.proofs.entangled.is_bound.Given as goal

-- the name is looked for among the rest
abbrev pub invariant-loop-binding : goal.invariant-loop-binding
invariant-loop-binding l = is_among (map (λ binding. binding.name) (drop l.binding-index l.bound)) l.name
    ≡ is_among (map (λ binding. binding.name) l.bound) l.name
