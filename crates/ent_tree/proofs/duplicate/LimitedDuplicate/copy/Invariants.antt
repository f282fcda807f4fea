use Rattle.std.proofs.Common.{◌≡◌, take}
use Rattle.ent_tree.proofs.duplicate.LimitedDuplicate.copy.Given as goal

-- the elements copied so far
abbrev pub invariant-loop-element : goal.invariant-loop-element
invariant-loop-element g l = l.copies ≡ take l.element-index l.elements
