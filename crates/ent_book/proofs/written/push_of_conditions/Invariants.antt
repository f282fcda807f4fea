use Rattle.std.proofs.Common.{◌≡◌, ◌++◌, drop}
use Rattle.std.specs.List.{flat_map}
use Rattle.ent_semantics.specs.Entangled.{condition_terms, term_variables}
use Rattle.ent_book.proofs.written.push_of_conditions.Given as goal

-- the names so far, and those of what is left
abbrev pub invariant-loop-condition : goal.invariant-loop-condition
invariant-loop-condition l =
    l.names.items ++ flat_map term_variables (flat_map condition_terms (drop l.condition-index l.conditions))
    ≡ l.fn.names.items ++ flat_map term_variables (flat_map condition_terms l.conditions)
