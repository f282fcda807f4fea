use Rattle.std.proofs.Common.{arith, sym, ◌∙◌}
use Rattle.std.specs.List.{list_any}
use Rattle.ent_meetings.specs.PartyMeeting.{offers}
use Rattle.ent_meetings.specs.declared.party.Party.{Party}
use Rattle.ent_meetings.specs.declared.pattern.Pattern.{Pattern}
use Rattle.ent_meetings.specs.Group.{seen}
use Rattle.ent_meetings.proofs.Seeing.{any_flat, any_off, any_on, any_whole}
use Rattle.ent_meetings.proofs.group.serves.Goals as goal

pub returns-then-serves_one : goal.returns-then-serves_one
returns-then-serves_one c =
    let served = λ (demand : Pattern). offers demand c.args.party.now in
    sym (any_flat (λ (party : Party). party.demands) served (seen c.args.parties.now)
    ∙ any_on c.args.parties.now c.loop-other.other-index c.other-item.result (omega arith) c.other-item.is
    (λ party. list_any served party.demands) (sym c.serves_one.ensures ∙ c.if-serves_one.true))

pub loop-other-preserved : goal.loop-other-preserved
loop-other-preserved c =
    let served = λ (demand : Pattern). offers demand c.args.party.now in
    any_off c.args.parties.now c.loop-other.other-index c.other-item.result (omega arith) c.other-item.is
    (λ party. list_any served party.demands) c.loop-other.invariant (sym c.serves_one.ensures ∙ c.if-serves_one.false)

pub returns : goal.returns
returns c =
    let served = λ (demand : Pattern). offers demand c.args.party.now in
    sym (any_flat (λ (party : Party). party.demands) served (seen c.args.parties.now)
    ∙ any_whole (λ (party : Party). list_any served party.demands) c.args.parties.now c.loop-other.other-index
    (omega arith)
    c.loop-other.invariant)
