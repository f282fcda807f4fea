use Rattle.std.proofs.Common.{◌≡◌, ◌++◌, drop, map}
use Rattle.std.specs.List.{flat_map}
use Rattle.ent_semantics.specs.Entangled.{term_variables}
use Rattle.ent_book.proofs.written.push_of_items.Given as goal

-- the names so far, and those of what is left
abbrev pub invariant-loop-item : goal.invariant-loop-item
invariant-loop-item l =
    l.names.items ++ flat_map term_variables (map (λ item. item.term) (drop l.item-index l.items))
    ≡ l.fn.names.items ++ flat_map term_variables (map (λ item. item.term) l.items)
