use Rattle.std.proofs.Common.{arith, sym, ◌∙◌}
use Rattle.ent_meetings.specs.PartyMeeting.{offers}
use Rattle.ent_meetings.proofs.Seeing.{any_off, any_on, any_whole}
use Rattle.ent_meetings.proofs.group.is_met.Goals as goal

pub returns-then-offers : goal.returns-then-offers
returns-then-offers c =
    sym (any_on c.args.parties.now c.loop-party.party-index c.party-item.result (omega arith) c.party-item.is
    (offers c.args.demand.now) (sym c.offers.ensures ∙ c.if-offers.true))

pub loop-party-preserved : goal.loop-party-preserved
loop-party-preserved c =
    any_off c.args.parties.now c.loop-party.party-index c.party-item.result (omega arith) c.party-item.is
    (offers c.args.demand.now) c.loop-party.invariant (sym c.offers.ensures ∙ c.if-offers.false)

pub returns : goal.returns
returns c =
    sym (any_whole (offers c.args.demand.now) c.args.parties.now c.loop-party.party-index (omega arith)
    c.loop-party.invariant)
