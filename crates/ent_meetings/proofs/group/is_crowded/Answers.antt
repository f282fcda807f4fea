use Rattle.std.proofs.Common.{nat_lt, arith, sym, ◌∙◌}
use Rattle.std.specs.List.{list_any}
use Rattle.ent_meetings.specs.PartyMeeting.{ways}
use Rattle.ent_meetings.specs.declared.party.Party.{Party}
use Rattle.ent_meetings.specs.declared.pattern.Pattern.{Pattern}
use Rattle.ent_meetings.specs.Group.{seen}
use Rattle.ent_meetings.proofs.Seeing.{any_flat, any_off, any_on, any_whole}
use Rattle.ent_meetings.proofs.group.is_crowded.Goals as goal

pub returns-then-is_crowded_for : goal.returns-then-is_crowded_for
returns-then-is_crowded_for c =
    let crowds = λ (demand : Pattern). nat_lt 1 (ways (seen c.args.parties.now) demand) in
    sym (any_flat (λ (party : Party). party.demands) crowds (seen c.args.parties.now)
    ∙ any_on c.args.parties.now c.loop-party.party-index c.party-item.result (omega arith) c.party-item.is
    (λ party. list_any crowds party.demands) (sym c.is_crowded_for.ensures ∙ c.if-is_crowded_for.true))

pub loop-party-preserved : goal.loop-party-preserved
loop-party-preserved c =
    let crowds = λ (demand : Pattern). nat_lt 1 (ways (seen c.args.parties.now) demand) in
    any_off c.args.parties.now c.loop-party.party-index c.party-item.result (omega arith) c.party-item.is
    (λ party. list_any crowds party.demands) c.loop-party.invariant
    (sym c.is_crowded_for.ensures ∙ c.if-is_crowded_for.false)

pub returns : goal.returns
returns c =
    let crowds = λ (demand : Pattern). nat_lt 1 (ways (seen c.args.parties.now) demand) in
    sym (any_flat (λ (party : Party). party.demands) crowds (seen c.args.parties.now)
    ∙ any_whole (λ (party : Party). list_any crowds party.demands) c.args.parties.now c.loop-party.party-index
    (omega arith)
    c.loop-party.invariant)
