use Rattle.std.proofs.Common.{◌≡◌, map, take}
use Rattle.ent_renewal.specs.Rows.{literal_of}
use Rattle.ent_renewal.proofs.row.literals_of.Given as goal

-- the literals so far
abbrev pub invariant-loop-value : goal.invariant-loop-value
invariant-loop-value l = l.literals ≡ map literal_of (take l.value-index l.values)
