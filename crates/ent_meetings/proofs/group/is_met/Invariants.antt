use Rattle.std.proofs.Common.{◌≡◌, false, take}
use Rattle.std.specs.List.{list_any}
use Rattle.ent_meetings.specs.PartyMeeting.{offers}
use Rattle.ent_meetings.specs.Group.{seen}
use Rattle.ent_meetings.proofs.group.is_met.Given as goal

abbrev pub invariant-loop-party : goal.invariant-loop-party
invariant-loop-party l = list_any (offers l.demand) (take l.party-index (seen l.parties)) ≡ false
