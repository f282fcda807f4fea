use Rattle.std.proofs.Common.{◌≡◌, take, map}
use Rattle.ent_semantics.specs.Form.{term_worth}
use Rattle.ent_ordinary.specs.Worth.{itself}
use Rattle.ent_check.proofs.term.terms_row.Given as goal

-- what the terms so far are worth
abbrev pub invariant-loop-term : goal.invariant-loop-term
invariant-loop-term l = l.values.items ≡ map (term_worth itself l.grounding) (take l.term-index l.term-items)
