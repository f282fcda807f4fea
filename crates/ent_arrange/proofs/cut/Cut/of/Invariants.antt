use Rattle.std.proofs.Common.{◌≡◌}
use Rattle.ent_arrange.specs.Cut.{joined}
use Rattle.ent_arrange.proofs.cut.Cut.of.Given as goal

-- the pieces so far and what is left are the text
abbrev pub invariant-loop-end : goal.invariant-loop-end
invariant-loop-end l = joined l.cut ≡ l.text
