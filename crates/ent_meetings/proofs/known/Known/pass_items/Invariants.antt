use Rattle.std.proofs.Common.{◌≡◌, drop}
use Rattle.ent_meetings.specs.Known.{known_after_items}
use Rattle.ent_meetings.specs.Bindings.{known_of}
use Rattle.ent_meetings.proofs.known.Known.pass_items.Given as goal

-- the items to come give what all items give
abbrev pub invariant-loop-item : goal.invariant-loop-item
invariant-loop-item l =
    known_after_items (known_of l.self) (drop l.item-index l.items) ≡ known_after_items (known_of l.fn.self) l.items
