use Rattle.std.proofs.Common.{◌≡◌, ◌++◌, map, take}
use Rattle.std.specs.List.{flat_map}
use Rattle.ent_warnings.specs.Offered.{condition_written}
use Rattle.ent_warnings.specs.Seen.{written}
use Rattle.ent_warnings.proofs.postcondition.Postcondition.add.Given as goal

-- those of the conditions so far
abbrev pub invariant-loop-condition : goal.invariant-loop-condition
invariant-loop-condition l =
    map written l.all.items
    ≡ map written l.fn.all.items ++ flat_map condition_written (take l.condition-index l.condition-items)
