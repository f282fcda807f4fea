use Rattle.std.proofs.Common.{◌≤◌, List, sym, subst}
use Rattle.std.specs.List.{AllByRecursion}
use Rattle.ent_sched.specs.Passed.{resolved_forms}
use Rattle.ent_protocol.specs.State.{Submitted}
use Rattle.ent_protocol_laws.specs.Attempts.{AsksForRun}
use Rattle.ent_epoch.proofs.Tries.{ended_closes, led_on_kept, recalled_kept, started_kept}
use Rattle.ent_epoch.proofs.law.batches_go_on.Goals as goal

pub returns-clause-recalled : goal.returns-clause-recalled
returns-clause-recalled c = λ s reply new step kept. recalled_kept s new step.1 kept

pub returns-clause-started : goal.returns-clause-started
returns-clause-started c = λ s reply new step kept. (started_kept s new reply kept step).0

pub returns-clause-begun : goal.returns-clause-begun
returns-clause-begun c = λ s reply new step kept. (started_kept s new reply kept step).1

pub returns-clause-led_on : goal.returns-clause-led_on
returns-clause-led_on c = λ s count new reached asks kept none leads.
    let tries = c.tries_are_of_those_who_wait.ensures in
    let same = leads.submitted in
    let later = c.events_lead_on.ensures.reached resolved_forms count s new reached leads.leads in
    let asked = subst (λ (own : List Submitted). AllByRecursion AsksForRun own) (sym same) asks in
    let once = subst (λ (own : List Submitted). AllByRecursion (λ (x : Submitted). x.script.within ≤ 1) own) (sym same)
    kept.once in
    led_on_kept s new none same (tries s reached asks kept.once) (tries new later asked once) kept
    (c.events_use_up_tries.ensures resolved_forms count s new reached asks leads).kept

pub returns-clause-ended : goal.returns-clause-ended
returns-clause-ended c = λ s count new reached asks kept none leads ended uses back.
    let tries = c.tries_are_of_those_who_wait.ensures in
    let same = leads.submitted in
    let later = c.events_lead_on.ensures.reached resolved_forms count s new reached leads.leads in
    let asked = subst (λ (own : List Submitted). AllByRecursion AsksForRun own) (sym same) asks in
    let once = subst (λ (own : List Submitted). AllByRecursion (λ (x : Submitted). x.script.within ≤ 1) own) (sym same)
    kept.once in
    ended_closes s new none same (tries s reached asks kept.once) (tries new later asked once) ended uses back
