use Rattle.std.proofs.Common.{◌≡◌, min, take}
use Rattle.ent_meetings.specs.PartyMeeting.{ways}
use Rattle.ent_meetings.specs.Group.{seen}
use Rattle.ent_meetings.proofs.group.ways.Given as goal

abbrev pub invariant-loop-party : goal.invariant-loop-party
invariant-loop-party l = l.counted ≡ min 2 (ways (take l.party-index (seen l.parties)) l.demand)
