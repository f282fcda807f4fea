use Rattle.std.proofs.Common.{◌≡◌, ◌++◌, map, take}
use Rattle.ent_plan.specs.Pairs.{placed_at, seen}
use Rattle.ent_plan.proofs.pair.push_atoms.Given as goal

-- the atoms so far are put down
abbrev pub invariant-loop-atom : goal.invariant-loop-atom
invariant-loop-atom l =
    map seen l.placed.items
    ≡ map seen l.fn.placed.items ++ map (placed_at l.member l.kinds) (take l.atom-index l.atoms)
