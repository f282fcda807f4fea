use Rattle.std.proofs.Common.{◌≡◌, ◌++◌, drop}
use Rattle.std.specs.List.{flat_map}
use Rattle.ent_semantics.specs.Entangled.{term_variables}
use Rattle.ent_book.proofs.written.push_of_terms.Given as goal

-- the names so far, and those of what is left
abbrev pub invariant-loop-term : goal.invariant-loop-term
invariant-loop-term l =
    l.names.items ++ flat_map term_variables (drop l.term-index l.terms)
    ≡ l.fn.names.items ++ flat_map term_variables l.terms
