use Rattle.std.proofs.Common.{◌≡◌, ◌++◌, map, take, All}
use Rattle.ent_unify.specs.Equation.{seen_equation, AreWithinBounds}
use Rattle.ent_unify.specs.Tuple.{tuple_equations}
use Rattle.ent_unify.proofs.unifier.push_equations.Given as goal

-- the equations of the columns so far
abbrev pub invariant-loop-column : goal.invariant-loop-column
invariant-loop-column l = record {
  pushed : map seen_equation l.equations.items ≡ map seen_equation l.fn.equations.items ++ take l.column
      (tuple_equations l.left l.right);
  bound : All AreWithinBounds (map seen_equation l.equations.items);
}
