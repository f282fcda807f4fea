use Rattle.std.proofs.Common.{◌≡◌, ◌++◌, drop}
use Rattle.ent_reasons.specs.Demand.{more_terms_text}
use Rattle.ent_reasons.proofs.demand_text.append_more_terms.Given as goal

-- what is out, and the text of what is left
abbrev pub invariant-loop-term : goal.invariant-loop-term
invariant-loop-term g l =
    l.out.items ++ more_terms_text g.T.DemandTerm.known (drop l.term-index l.more)
    ≡ l.fn.out.items ++ more_terms_text g.T.DemandTerm.known l.more
