use Rattle.std.proofs.Common.{◌≡◌, ◌++◌, map, take, drop}
use Rattle.ent_unify.specs.Side.{seen, single}
use Rattle.ent_unify.specs.Equation.{seen_equation, resolved_both}
use Rattle.ent_unify.proofs.equation.substitute.Given as goal

-- the equations so far have the side in the place of the variable
abbrev pub invariant-loop-equation : goal.invariant-loop-equation
invariant-loop-equation l =
    map seen_equation l.equations
    ≡ map (resolved_both (single l.fn.variable (seen l.by))) (take l.equation-index (map seen_equation l.fn.equations))
    ++ drop l.equation-index (map seen_equation l.fn.equations)
