use Rattle.std.proofs.Common.{◌≡◌, map, take}
use Rattle.std.specs.List.{flat_map}
use Rattle.ent_unify.specs.Side.{Substitution}
use Rattle.ent_unify.specs.Equation.{seen_equation, resolved_both}
use Rattle.ent_unify.specs.Unifier.{bindings_under}
use Rattle.ent_unify.proofs.unifier.bindings_of.Given as goal

-- the bindings of the equations so far
abbrev pub invariant-loop-i : goal.invariant-loop-i
invariant-loop-i l =
    (stands : Substitution) → map seen_equation l.solved ≡ map (resolved_both stands) (map seen_equation l.given)
    → l.bindings.items ≡ flat_map (bindings_under stands) (take l.i (map seen_equation l.given))
