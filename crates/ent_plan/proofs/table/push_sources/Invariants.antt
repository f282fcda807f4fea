use Rattle.std.proofs.Common.{◌≡◌, ◌++◌, take}
use Rattle.std.specs.List.{flat_map}
use Rattle.ent_plan.proofs.table.push_sources.Given as goal

-- the sources of the sub-selects so far are put down
abbrev pub invariant-loop-membership : goal.invariant-loop-membership
invariant-loop-membership l =
    l.tables.items ≡ l.fn.tables.items
    ++ flat_map (λ membership. membership.select.sources) (take l.membership-index l.membership-items)
