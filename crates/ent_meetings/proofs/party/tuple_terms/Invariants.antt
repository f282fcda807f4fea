use Rattle.std.proofs.Common.{◌≡◌, map, take}
use Rattle.ent_meetings.specs.Known.{known_term}
use Rattle.ent_meetings.specs.Bindings.{known_of}
use Rattle.ent_meetings.proofs.party.tuple_terms.Given as goal

abbrev pub invariant-loop-term : goal.invariant-loop-term
invariant-loop-term l = l.values.items ≡ map (known_term (known_of l.fn.known)) (take l.term-index l.terms)
