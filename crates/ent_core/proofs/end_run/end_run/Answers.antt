use Rattle.std.proofs.Common.{◌≡◌, true, Option, sym, ap, subst, ◌∙◌}
use Rattle.std.specs.List.{AllByRecursion}
use Rattle.ent_protocol.specs.State.{State}
use Rattle.ent_form.specs.declared.fault.FormFault.{FormFault}
use Rattle.ent_protocol.specs.Event as replies
use Rattle.ent_protocol.specs.Run.{Ends}
use Rattle.ent_waits.specs.Quiet.{IsReasonIfAny, reason_seen}
use Rattle.ent_waits.specs.declared.reason.Reason.{Reason}
use Rattle.ent_headline.specs.Resolved.{resolved_forms}
use Rattle.ent_protocol_laws.specs.Attempts.{AsksForRun}
use Rattle.ent_core.proofs.Ending.{has_ended, kept_busy}
use Rattle.ent_core.proofs.end_run.end_run.Goals as goal

pub end-members-requires-clause-counted : goal.end-members-requires-clause-counted
end-members-requires-clause-counted c =
    c.transactions_are_counted.ensures resolved_forms c.args.store.now c.requires.kept.reached

pub end-members-requires-clause-within : goal.end-members-requires-clause-within
end-members-requires-clause-within c =
    let P : State → Type 0 = λ s. AllByRecursion AsksForRun s.submitted in
    c.attempts_stay_within.ensures.own resolved_forms c.args.store.now c.requires.kept.reached
    (subst P c.store.view_is c.store.invariant.0.asks)

pub end-members-requires-clause-once : goal.end-members-requires-clause-once
end-members-requires-clause-once c =
    c.transactions_stand_once.ensures.once resolved_forms c.args.store.now c.requires.kept.reached

pub end-members-requires-clause-few : goal.end-members-requires-clause-few
end-members-requires-clause-few c = c.scripts_are_few.ensures resolved_forms c.args.store.now c.requires.kept.reached

pub returns-in_ok-reason-in-Some-clause-ok : goal.returns-in_ok-reason-in-Some-clause-ok
returns-in_ok-reason-in-Some-clause-ok c =
    let s : State = c.args.store.now in
    let on : s.running ≡ true = sym (ap (λ (x : State). x.running) c.store.view_is) ∙ c.if-not-store.false in
    let busy = kept_busy s c.in-Some.why on
    (subst (λ (why : Option Reason). IsReasonIfAny s why) c.in-Some.is c.in_ok-why.ensures) in
    subst (λ (why : Reason). Ends {F = FormFault} s (replies.Busy (reason_seen why)) s)
    (sym c.in_ok-reason-in-Some.ensures) busy

pub returns-in-None-clause-ok : goal.returns-in-None-clause-ok
returns-in-None-clause-ok c =
    let s : State = c.args.store.now in
    let on : s.running ≡ true = sym (ap (λ (x : State). x.running) c.store.view_is) ∙ c.if-not-store.false in
    has_ended s c.end-members.new.store c.end-members.result on
    (subst (λ (why : Option Reason). IsReasonIfAny s why) c.in-None.is c.in_ok-why.ensures)
    c.end-members.ensures.members c.end-members.ensures.state
