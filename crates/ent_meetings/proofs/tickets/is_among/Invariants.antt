use Rattle.std.proofs.Common.{take, map}
use Rattle.ent_lists.specs.Elements.{In}
use Rattle.ent_meetings.proofs.tickets.is_among.Given as goal

-- none of the lists before has these tickets
abbrev pub invariant-loop-list : goal.invariant-loop-list
invariant-loop-list l = In l.tickets (take l.list-index (map (λ list. list.items) l.lists)) → ⊥
