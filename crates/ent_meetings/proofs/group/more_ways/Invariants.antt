use Rattle.std.proofs.Common.{◌≡◌, ◌+◌, min, take, count_by}
use Rattle.ent_meetings.specs.Pattern.{may_meet}
use Rattle.ent_meetings.proofs.group.more_ways.Given as goal

abbrev pub invariant-loop-offer : goal.invariant-loop-offer
invariant-loop-offer l =
    l.ways ≡ min 2 (l.counted + count_by (may_meet l.demand) (take l.offer-index l.party.offers))
