use Rattle.std.proofs.Common.{◌≡◌, ◌+◌, take, arith, count_by}
use Rattle.ent_meetings.specs.PartyMeeting.{ways}
use Rattle.ent_meetings.specs.Pattern.{may_meet}
use Rattle.ent_meetings.specs.declared.party.Party.{Party}
use Rattle.ent_meetings.specs.Group.{seen}
use Rattle.ent_meetings.proofs.Seeing.{count_more, seen_at, seen_low}
use Rattle.ent_meetings.proofs.group.ways.Goals as goal

pub loop-party-preserved : goal.loop-party-preserved
loop-party-preserved c =
    let demand = c.args.demand.now in
    let more : ways (take (c.loop-party.party-index + 1) (seen c.args.parties.now)) demand
    ≡ ways (take c.loop-party.party-index (seen c.args.parties.now)) demand
    + count_by (may_meet demand) c.party-item.result.now.offers =
    count_more (λ (party : Party). party.offers) (may_meet demand) (seen c.args.parties.now) c.loop-party.party-index
    c.party-item.result.now
    (seen_low c.args.parties.now c.loop-party.party-index c.party-item.result (omega arith) c.party-item.is)
    (seen_at c.args.parties.now c.loop-party.party-index c.party-item.result (omega arith) c.party-item.is) in
    let counted = c.more_ways-counted.ensures in
    let before = c.loop-party.invariant in
    omega arith
