use Rattle.std.proofs.Common.{◌≡◌, take}
use Rattle.ent_tree.proofs.duplicate.SequenceDuplicate.copy.Given as goal

-- the elements copied so far
abbrev pub invariant-loop-element : goal.invariant-loop-element
invariant-loop-element g l = l.copies.items ≡ take l.element-index l.self
