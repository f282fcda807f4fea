use Rattle.std.proofs.Common.{◌≡◌, map, take}
use Rattle.ent_plan.proofs.join_plan.class_kinds.Given as goal

-- the kinds of the classes so far
abbrev pub invariant-loop-class : goal.invariant-loop-class
invariant-loop-class l = l.kinds.items ≡ map (λ class. class.first.kind) (take l.class-index l.classes)
