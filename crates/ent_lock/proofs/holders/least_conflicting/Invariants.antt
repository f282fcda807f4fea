use Rattle.std.proofs.Common.{◌≡◌, ◌≤◌, drop}
use Rattle.ent_lock.specs.Holders.{lesser, least_conflicting}
use Rattle.ent_lock.proofs.holders.least_conflicting.Given as goal

-- the least of those so far and of the others, and no more are passed by their place than were looked at
abbrev pub invariant-loop-holder : goal.invariant-loop-holder
invariant-loop-holder l =
    (lesser l.least (least_conflicting l.asker l.mode l.pass (drop l.holder-index l.holders))
    ≡ least_conflicting l.asker l.mode l.pass l.holders)
    × (l.next ≤ l.holder-index)
