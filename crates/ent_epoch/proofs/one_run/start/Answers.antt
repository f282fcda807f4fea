use Rattle.std.proofs.Common.{refl, subst, sym, ◌∙◌}
use Rattle.ent_sched.specs.Passed.{reply_seen, resolved_forms}
use Rattle.ent_protocol.specs.Event.{Recall, StartRun}
use Rattle.ent_protocol.specs.State.{State}
use Rattle.ent_sched.specs.Onward.{LeadsOn}
use Rattle.ent_epoch.specs.Telling.{KeepsUp}
use Rattle.ent_epoch.proofs.Heard.{recall_is_no_commit, start_is_no_commit}
use Rattle.ent_epoch.proofs.one_run.start.Goals as goal

pub returns-in_err-start_run-clause-events : goal.returns-in_err-start_run-clause-events
returns-in_err-start_run-clause-events c =
    let s = c.args.core.now in
    let recalled = c.recall.new.self in
    let reply = reply_seen c.recall.result in
    let step = c.recall.ensures.step in
    let keeps = c.events_keep_the_input.ensures in
    let one : LeadsOn resolved_forms 1 s recalled = record {
      leads = (s, Recall, reply, refl, step);
      opening = keeps.opening resolved_forms s Recall reply recalled step;
      submitted = keeps.submitted resolved_forms s Recall reply recalled step refl;
    } in
    (1, subst (λ (t : State). LeadsOn resolved_forms 1 s t) (sym c.in_err-start_run.ensures.err) one)

pub returns-clause-events : goal.returns-clause-events
returns-clause-events c =
    let s = c.args.core.now in
    let recalled = c.recall.new.self in
    let first = reply_seen c.recall.result in
    let new = c.start_run.new.self in
    let second = reply_seen c.in_ok-start_run.field-0 in
    let recalls = c.recall.ensures.step in
    let starts = c.in_ok-start_run.ensures.ok in
    let keeps = c.events_keep_the_input.ensures in
    let both : LeadsOn resolved_forms 2 s new = record {
      leads = (recalled, StartRun, second, (s, Recall, first, refl, recalls), starts);
      opening = keeps.opening resolved_forms recalled StartRun second new starts
          ∙ keeps.opening resolved_forms s Recall first recalled recalls;
      submitted = keeps.submitted resolved_forms recalled StartRun second new starts refl
          ∙ keeps.submitted resolved_forms s Recall first recalled recalls refl;
    } in
    (2, both)

pub returns-in_err-start_run-clause-unheard : goal.returns-in_err-start_run-clause-unheard
returns-in_err-start_run-clause-unheard c = λ telling keeps.
    let s = c.args.core.now in
    let recalled = c.recall.new.self in
    let reply = reply_seen c.recall.result in
    let step = c.recall.ensures.step in
    subst (λ (t : State). KeepsUp telling t) (sym c.in_err-start_run.ensures.err)
    (c.tellings_keep_up.ensures.unheard telling s Recall reply recalled keeps step
    (recall_is_no_commit s recalled reply step))

pub returns-clause-unheard : goal.returns-clause-unheard
returns-clause-unheard c = λ telling keeps.
    let s = c.args.core.now in
    let recalled = c.recall.new.self in
    let first = reply_seen c.recall.result in
    let new = c.start_run.new.self in
    let second = reply_seen c.in_ok-start_run.field-0 in
    let recalls = c.recall.ensures.step in
    let starts = c.in_ok-start_run.ensures.ok in
    c.tellings_keep_up.ensures.unheard telling recalled StartRun second new
    (c.tellings_keep_up.ensures.unheard telling s Recall first recalled keeps recalls
    (recall_is_no_commit s recalled first recalls))
    starts (start_is_no_commit recalled new second starts)
