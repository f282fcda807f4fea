use Rattle.std.proofs.Common.{◌≡◌, drop}
use Rattle.std.specs.List.{flat_map}
use Rattle.ent_semantics.specs.Database.{is_among}
use Rattle.ent_bound.specs.Values.{item_sets}
use Rattle.ent_bound.proofs.setting.items_set.Given as goal

-- the name is looked for among what the rest sets
abbrev pub invariant-loop-item : goal.invariant-loop-item
invariant-loop-item l = is_among (flat_map item_sets (drop l.item-index l.items)) l.name
    ≡ is_among (flat_map item_sets l.items) l.name
