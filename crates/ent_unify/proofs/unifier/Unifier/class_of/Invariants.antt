use Rattle.std.proofs.Common.{◌≡◌, drop}
use Rattle.ent_unify.specs.Unifier.{class_of}
use Rattle.ent_unify.proofs.unifier.Unifier.class_of.Given as goal

-- the bindings so far are of other variables
abbrev pub invariant-loop-binding : goal.invariant-loop-binding
invariant-loop-binding l = class_of l.self l.variable ≡ class_of (drop l.binding-index l.binding-items) l.variable
