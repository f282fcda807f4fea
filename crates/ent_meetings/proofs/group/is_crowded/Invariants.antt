use Rattle.std.proofs.Common.{◌≡◌, false, take, nat_lt}
use Rattle.std.specs.List.{list_any}
use Rattle.ent_meetings.specs.PartyMeeting.{ways}
use Rattle.ent_meetings.specs.Group.{seen}
use Rattle.ent_meetings.proofs.group.is_crowded.Given as goal

abbrev pub invariant-loop-party : goal.invariant-loop-party
invariant-loop-party l =
    list_any (λ party. list_any (λ demand. nat_lt 1 (ways (seen l.parties) demand)) party.demands)
    (take l.party-index (seen l.parties)) ≡ false
