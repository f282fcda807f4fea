use Rattle.std.proofs.Common.{◌≡◌, map, drop}
use Rattle.ent_form.specs.Entangled.{noted_terms}
use Rattle.ent_form.proofs.variable.note_terms.Given as goal

-- behind those before, the terms that are left give what all of them give
abbrev pub invariant-loop-term : goal.invariant-loop-term
invariant-loop-term l = noted_terms (map (λ other. other.now) l.names.items) (drop l.term-index l.terms)
    ≡ noted_terms (map (λ other. other.now) l.fn.names.items) l.terms
