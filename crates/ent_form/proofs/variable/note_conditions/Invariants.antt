use Rattle.std.proofs.Common.{◌≡◌, map, drop}
use Rattle.ent_form.specs.Entangled.{noted_conditions}
use Rattle.ent_form.proofs.variable.note_conditions.Given as goal

-- behind those before, the conditions that are left give what all of them give
abbrev pub invariant-loop-condition : goal.invariant-loop-condition
invariant-loop-condition l = noted_conditions (map (λ other. other.now) l.names.items)
    (drop l.condition-index l.conditions) ≡ noted_conditions (map (λ other. other.now) l.fn.names.items) l.conditions
