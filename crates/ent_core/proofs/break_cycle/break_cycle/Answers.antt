use Rattle.std.proofs.Common.{◌≡◌, inr, refl, subst, ◌∙◌}
use Rattle.std.specs.List.{AllByRecursion}
use Rattle.ent_form.specs.declared.fault.FormFault.{FormFault}
use Rattle.ent_protocol.specs.State.{State}
use Rattle.ent_protocol.specs.Waits.{NoDeadlock}
use Rattle.ent_headline.specs.Resolved.{resolved_forms}
use Rattle.ent_protocol_laws.specs.Attempts.{AsksForRun}
use Rattle.ent_waits.specs.Victim.{IsVictim}
use Rattle.ent_waits.specs.Waits.{state_with}
use Rattle.ent_core.specs.contracts.store.Store.{the_view}
use Rattle.ent_core.proofs.Breaking.{broken}
use Rattle.ent_core.proofs.Packing.{cycle_packed}
use Rattle.ent_core.proofs.break_cycle.break_cycle.Goals.{In-Some}
use Rattle.ent_core.proofs.break_cycle.break_cycle.Goals as goal

pub roll_back-group-requires-clause-counted : goal.roll_back-group-requires-clause-counted
roll_back-group-requires-clause-counted c =
    c.transactions_are_counted.ensures resolved_forms c.args.store.now c.requires.reached

pub roll_back-group-requires-clause-within : goal.roll_back-group-requires-clause-within
roll_back-group-requires-clause-within c =
    let P : State → Type 0 = λ s. AllByRecursion AsksForRun s.submitted in
    c.attempts_stay_within.ensures.own resolved_forms c.args.store.now c.requires.reached
    (subst P c.store.view_is c.store.invariant.0.asks)

pub roll_back-group-requires-clause-once : goal.roll_back-group-requires-clause-once
roll_back-group-requires-clause-once c =
    c.transactions_stand_once.ensures.once resolved_forms c.args.store.now c.requires.reached

pub roll_back-group-requires-clause-few : goal.roll_back-group-requires-clause-few
roll_back-group-requires-clause-few c =
    c.scripts_are_few.ensures resolved_forms c.args.store.now c.requires.reached

-- the deadlock that is found is one of the state
is_victim : (c : In-Some) → IsVictim c.args.store.now c.in-Some.victim
is_victim c =
    let s : State = the_view c.store.inside in
    let P : State → Type 0 = λ x. IsVictim x c.in-Some.victim in
    let same : state_with c.store.inside.run c.as_slice.result.now c.as_slice-2.result.now s ≡ c.args.store.now =
    (λ i. state_with c.store.inside.run (c.as_slice.ensures.value i) (c.as_slice-2.ensures i) s) ∙ c.store.view_is in
    subst P same (c.in-Some.ensures.found s)

pub of-cycle-requires : goal.of-cycle-requires
of-cycle-requires c =
    let s : State = c.args.store.now in
    let A : State → Type 0 = λ x. AllByRecursion AsksForRun x.submitted in
    let within = c.attempts_stay_within.ensures.own resolved_forms s c.requires.reached
    (subst A c.store.view_is c.store.invariant.0.asks) in
    cycle_packed s.submitted (c.scripts_are_few.ensures resolved_forms s c.requires.reached) s
    c.in-Some.victim.cycle (is_victim (goal.at.of-cycle-requires c).In-Some).deadlock.is_cycle within.members

pub returns-in-Some : goal.returns-in-Some
returns-in-Some c =
    broken FormFault c.args.store.now c.roll_back-group.new.store c.in-Some.victim c.of-cycle.result
    c.roll_back-group.result (is_victim (goal.at.returns-in-Some c).In-Some) c.of-cycle.ensures
    c.roll_back-group.ensures.group c.roll_back-group.ensures.state

pub returns-in-None : goal.returns-in-None
returns-in-None c =
    let s : State = the_view c.store.inside in
    let same : state_with c.store.inside.run c.as_slice.result.now c.as_slice-2.result.now s ≡ c.args.store.now =
    (λ i. state_with c.store.inside.run (c.as_slice.ensures.value i) (c.as_slice-2.ensures i) s) ∙ c.store.view_is in
    inr (subst NoDeadlock same (c.in-None.ensures.none s refl), (refl, refl))
