use Rattle.std.proofs.Common.{◌≡◌, length}
use Rattle.ent_sql.specs.Entangling.{are_terms}
use Rattle.ent_sql.proofs.entangling.are_terms.Given as goal

-- what is left decides
abbrev pub invariant-loop-rest : goal.invariant-loop-rest
invariant-loop-rest l = are_terms l.rest ≡ are_terms l.fn.operands

abbrev pub decreases-loop-rest : goal.decreases-loop-rest
decreases-loop-rest l = length l.rest
