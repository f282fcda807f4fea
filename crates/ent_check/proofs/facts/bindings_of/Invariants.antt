use Rattle.std.proofs.Common.{◌≡◌, take, map}
use Rattle.ent_semantics.specs.Form.{term_worth}
use Rattle.ent_ordinary.specs.Worth.{itself}
use Rattle.ent_check.proofs.facts.bindings_of.Given as goal

-- the bindings so far
abbrev pub invariant-loop-bind : goal.invariant-loop-bind
invariant-loop-bind l = l.bound.items
    ≡ map (λ bind. (bind.variable, term_worth itself l.grounding bind.term)) (take l.bind-index l.bind-items)
