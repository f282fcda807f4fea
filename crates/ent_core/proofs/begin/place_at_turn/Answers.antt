use Rattle.std.proofs.Common.{◌∙◌, ◌||◌, Bool, ap, refl, subst, sym}
use Rattle.std.proofs.lemmas.Option.{same_Some}
use Rattle.ent_protocol.specs.Member.{active_member, is_lent, is_prepared}
use Rattle.ent_protocol.specs.State.{State}
use Rattle.ent_core.specs.contracts.store.Store.{the_view}
use Rattle.ent_waits.specs.Free.{IsIdle}
use Rattle.ent_core.proofs.Begun.{either, idle_by, or_false, refused_absent, refused_out, refused_prepared}
use Rattle.ent_core.proofs.Begun.{stands_at}
use Rattle.ent_core.proofs.begin.place_at_turn.Goals as goal

pub returns-then-is_prepared-clause-refused : goal.returns-then-is_prepared-clause-refused
returns-then-is_prepared-clause-refused c =
    let s : State = the_view c.store.inside in
    refused_prepared c.args.store.now c.args.tx
    (ap (λ (x : State). active_member x c.args.tx) (sym c.store.view_is) ∙ c.in_default.ensures.none refl s)
    (ap (λ (x : State). is_prepared x c.args.tx) (sym c.store.view_is)
    ∙ sym (c.is_prepared.ensures.prepared s) ∙ c.if-is_prepared.true)

pub returns-in_default-clause-refused : goal.returns-in_default-clause-refused
returns-in_default-clause-refused c =
    let s : State = the_view c.store.inside in
    refused_absent c.args.store.now c.args.tx
    (ap (λ (x : State). active_member x c.args.tx) (sym c.store.view_is) ∙ c.in_default.ensures.none refl s)
    (ap (λ (x : State). is_prepared x c.args.tx) (sym c.store.view_is)
    ∙ sym (c.is_prepared.ensures.prepared s) ∙ c.if-is_prepared.false)

pub at-requires : goal.at-requires
at-requires c = c.in-Some.ensures.some.in_range

pub returns-then-is_posted-clause-refused : goal.returns-then-is_posted-clause-refused
returns-then-is_posted-clause-refused c =
    let s : State = the_view c.store.inside in
    let now = c.args.store.now in
    let member = c.at.result in
    let there = ap (λ (x : State). active_member x c.args.tx) (sym c.store.view_is)
    ∙ stands_at s s.active c.args.tx c.in-Some.place member refl c.in-Some.ensures.some c.at.ensures in
    refused_out now c.args.tx member there
    (ap (λ (b : Bool). b || is_lent now c.args.tx) (sym c.is_posted.ensures ∙ c.if-is_posted.true))

pub returns-then-is_lent-clause-refused : goal.returns-then-is_lent-clause-refused
returns-then-is_lent-clause-refused c =
    let s : State = the_view c.store.inside in
    let now = c.args.store.now in
    let member = c.at.result in
    let there = ap (λ (x : State). active_member x c.args.tx) (sym c.store.view_is)
    ∙ stands_at s s.active c.args.tx c.in-Some.place member refl c.in-Some.ensures.some c.at.ensures in
    refused_out now c.args.tx member there (either member.posted (is_lent now c.args.tx)
    (ap (λ (x : State). is_lent x c.args.tx) (sym c.store.view_is)
    ∙ sym (c.is_lent.ensures.state s refl) ∙ c.if-is_lent.true))

pub returns-clause-idle : goal.returns-clause-idle
returns-clause-idle c = λ other found.
    let s : State = the_view c.store.inside in
    let now = c.args.store.now in
    let member = c.at.result in
    let there = ap (λ (x : State). active_member x c.args.tx) (sym c.store.view_is)
    ∙ stands_at s s.active c.args.tx c.in-Some.place member refl c.in-Some.ensures.some c.at.ensures in
    subst (IsIdle now) (same_Some member other (sym there ∙ found))
    (idle_by now c.args.tx member there
    (or_false member.posted (is_lent now c.args.tx) (sym c.is_posted.ensures ∙ c.if-is_posted.false)
    (ap (λ (x : State). is_lent x c.args.tx) (sym c.store.view_is)
    ∙ sym (c.is_lent.ensures.state s refl) ∙ c.if-is_lent.false)))
