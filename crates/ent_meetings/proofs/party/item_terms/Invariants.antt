use Rattle.std.proofs.Common.{◌≡◌, map, take}
use Rattle.ent_meetings.specs.Known.{known_term}
use Rattle.ent_meetings.specs.Bindings.{known_of}
use Rattle.ent_meetings.proofs.party.item_terms.Given as goal

abbrev pub invariant-loop-item : goal.invariant-loop-item
invariant-loop-item l =
    l.values.items ≡ map (λ item. known_term (known_of l.fn.known) item.term) (take l.item-index l.items)
