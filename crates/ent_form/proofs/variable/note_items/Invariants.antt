use Rattle.std.proofs.Common.{◌≡◌, map, drop}
use Rattle.ent_form.specs.Entangled.{noted_items}
use Rattle.ent_form.proofs.variable.note_items.Given as goal

-- behind those before, the items that are left give what all of them give
abbrev pub invariant-loop-item : goal.invariant-loop-item
invariant-loop-item l = noted_items (map (λ other. other.now) l.names.items) (drop l.item-index l.items)
    ≡ noted_items (map (λ other. other.now) l.fn.names.items) l.items
