use Rattle.ent_lists.specs.Elements.{FitBefore}
use Rattle.ent_history.specs.Alike.{same_fact}
use Rattle.ent_check.proofs.alike.same_facts.Given as goal

-- the facts so far are the same
abbrev pub invariant-loop-index : goal.invariant-loop-index
invariant-loop-index l = FitBefore same_fact l.first l.second l.index
