use Rattle.std.proofs.Common.{◌≡◌, map, take}
use Rattle.ent_history.proofs.unplaced.LimitedUnplaced.unplaced.Given as goal

-- the elements so far, without their places
abbrev pub invariant-loop-element : goal.invariant-loop-element
invariant-loop-element g l = l.copies ≡ map g.T.Unplaced.without_places (take l.element-index l.elements)
