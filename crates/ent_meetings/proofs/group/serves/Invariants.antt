use Rattle.std.proofs.Common.{◌≡◌, false, take}
use Rattle.std.specs.List.{list_any}
use Rattle.ent_meetings.specs.PartyMeeting.{offers}
use Rattle.ent_meetings.specs.Group.{seen}
use Rattle.ent_meetings.proofs.group.serves.Given as goal

abbrev pub invariant-loop-other : goal.invariant-loop-other
invariant-loop-other l =
    list_any (λ other. list_any (λ demand. offers demand l.party) other.demands)
    (take l.other-index (seen l.parties)) ≡ false
