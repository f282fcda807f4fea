use Rattle.std.proofs.Common.{◌≡◌, None, not, take}
use Rattle.std.specs.List.{find}
use Rattle.ent_meetings.specs.PartyMeeting.{is_met}
use Rattle.ent_meetings.specs.Group.{demands_of, seen}
use Rattle.ent_meetings.proofs.group.first_unmet.Given as goal

-- those before demand nothing that isn't met
abbrev pub invariant-loop-party : goal.invariant-loop-party
invariant-loop-party l =
    find (λ demand. not (is_met (seen l.parties) demand)) (demands_of (take l.party-index (seen l.parties))) ≡ None
