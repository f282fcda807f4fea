use Rattle.std.proofs.Common.{◌≡◌, map, take}
use Rattle.ent_bound.specs.Bound.{bound_value}
use Rattle.ent_bound.proofs.list.LimitedPart.bound.Given as goal

-- the parts so far, with bound values
abbrev pub invariant-loop-part : goal.invariant-loop-part
invariant-loop-part g l =
    l.copies ≡ map (g.T.Part.over (bound_value l.variables)) (take l.part-index l.parts)
