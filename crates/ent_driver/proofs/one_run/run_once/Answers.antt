use Rattle.std.proofs.Common.{refl, subst, sym}
use Rattle.ent_core.specs.Reply.{reply_seen}
use Rattle.ent_sched.specs.Passed.{resolved_forms}
use Rattle.ent_protocol.specs.Event.{Recall}
use Rattle.ent_protocol.specs.State.{State}
use Rattle.ent_sched.specs.Bounds.{events_of_run}
use Rattle.ent_sched.specs.Onward.{LeadsOn}
use Rattle.ent_driver.proofs.one_run.run_once.Goals as goal

pub returns-in-Err-clause-handed_back : goal.returns-in-Err-clause-handed_back
returns-in-Err-clause-handed_back c =
    let first = c.new-counted.result in
    let middle = c.recall.new.self in
    let last = c.run-ran.new.counted in
    let recalled = c.events_add_up.ensures.one resolved_forms Recall (reply_seen c.recall.result) first middle
    c.recall.ensures refl in
    let both = c.events_add_up.ensures.joined resolved_forms 1 (events_of_run middle.core) first middle last recalled
    c.in-Err.ensures.events in (
      both.count,
      subst (λ (s : State). LeadsOn resolved_forms both.count s c.into_parts-core.result.0) c.new-counted.ensures.core
          (subst (λ (s : State). LeadsOn resolved_forms both.count first.core s) (sym c.into_parts-core.ensures.core)
          both.leads_on),
    )
