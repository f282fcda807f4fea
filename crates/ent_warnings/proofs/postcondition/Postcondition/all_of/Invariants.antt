use Rattle.std.proofs.Common.{◌≡◌, map, take}
use Rattle.std.specs.List.{flat_map}
use Rattle.ent_warnings.specs.Offered.{statement_written}
use Rattle.ent_warnings.specs.Seen.{written}
use Rattle.ent_warnings.proofs.postcondition.Postcondition.all_of.Given as goal

-- those of the statements so far
abbrev pub invariant-loop-statement : goal.invariant-loop-statement
invariant-loop-statement l =
    map written l.all.items ≡ flat_map statement_written (take l.statement-index l.statement-items)
