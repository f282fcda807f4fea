use Rattle.std.proofs.Common.{◌≡◌, [], drop}
use Rattle.ent_form.specs.Bindings.{bound_in}
use Rattle.ent_form.specs.Lookup.{operands_in}
use Rattle.ent_form.specs.Ordinary.{items_from}
use Rattle.ent_form.specs.Seen.{scope_of}
use Rattle.ent_form.proofs.select.listed_items.Given as goal

-- behind those before, the items that are left give what all of them give
abbrev pub invariant-loop-item : goal.invariant-loop-item
invariant-loop-item l = items_from (operands_in (scope_of l.sources) (bound_in l.bindings)) (l.items, l.kinds)
    (drop l.item-index l.listed) ≡ items_from (operands_in (scope_of l.sources) (bound_in l.bindings)) ([], []) l.listed
