use Rattle.std.proofs.Common.{◌≡◌, map, take}
use Rattle.ent_prepare.specs.Given.{literal_at}
use Rattle.ent_prepare.proofs.opening.literals_at.Given as goal

-- the literals so far
abbrev pub invariant-loop-value : goal.invariant-loop-value
invariant-loop-value l = l.literals ≡ map (literal_at l.number) (take l.value-index l.values)
