use Rattle.std.proofs.Common.{◌≡◌, None, IsSome, not, arith, rules, sym, ◌∙◌}
use Rattle.std.specs.List.{find}
use Rattle.ent_meetings.specs.PartyMeeting.{is_met}
use Rattle.ent_meetings.specs.declared.party.Party.{Party}
use Rattle.ent_meetings.specs.declared.pattern.Pattern.{Pattern}
use Rattle.ent_meetings.specs.Group.{seen}
use Rattle.ent_meetings.proofs.Seeing.{find_first, find_none, none_copied, seen_at, seen_low}
use Rattle.ent_meetings.proofs.group.first_unmet.Goals as goal

pub returns-then-is_some : goal.returns-then-is_some
returns-then-is_some c =
    let unmet = λ (demand : Pattern). not (is_met (seen c.args.parties.now) demand) in
    let found = c.first_unmet_of-unmet.ensures in
    let some : IsSome (find unmet c.party-item.result.now.demands) = search (rules, found) in
    found
    ∙ sym (find_first (λ (party : Party). party.demands) unmet (seen c.args.parties.now) c.loop-party.party-index
    c.party-item.result.now
    (seen_low c.args.parties.now c.loop-party.party-index c.party-item.result (omega arith) c.party-item.is)
    (seen_at c.args.parties.now c.loop-party.party-index c.party-item.result (omega arith) c.party-item.is)
    c.loop-party.invariant some)

pub loop-party-preserved : goal.loop-party-preserved
loop-party-preserved c =
    let unmet = λ (demand : Pattern). not (is_met (seen c.args.parties.now) demand) in
    let found = c.first_unmet_of-unmet.ensures in
    let none : find unmet c.party-item.result.now.demands ≡ None =
    sym found ∙ none_copied c.first_unmet_of-unmet.result (sym c.if-is_some.ensures) in
    find_none (λ (party : Party). party.demands) unmet (seen c.args.parties.now) c.loop-party.party-index
    c.party-item.result.now
    (seen_low c.args.parties.now c.loop-party.party-index c.party-item.result (omega arith) c.party-item.is)
    (seen_at c.args.parties.now c.loop-party.party-index c.party-item.result (omega arith) c.party-item.is)
    c.loop-party.invariant none
