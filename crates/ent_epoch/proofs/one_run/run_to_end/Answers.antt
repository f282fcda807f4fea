use Rattle.std.proofs.Common.{◌∙◌, ◌+◌, Result, Ok, Err, IfErr, IfOk}
use Rattle.ent_sched.specs.Passed.{resolved_forms}
use Rattle.ent_epoch.proofs.one_run.run_to_end.Goals as goal

if_err : {T E : Type 0} {P Q : E → Type 0} (r : Result T E) → ((e : E) → P e → Q e) → IfErr r P → IfErr r Q
if_err (Ok x) f h = tt
if_err (Err e) f h = f e h

if_ok : {T E : Type 0} {P Q : T → Type 0} (r : Result T E) → ((x : T) → P x → Q x) → IfOk r P → IfOk r Q
if_ok (Ok x) f h = f x h
if_ok (Err e) f h = tt

pub returns-in-Ok-clause-handed_back : goal.returns-in-Ok-clause-handed_back
returns-in-Ok-clause-handed_back c =
    let s = c.args.core in
    let started = c.start.new.core in
    let first = c.start.ensures.events in
    if_err c.end.result
    (λ refused second. (
      first.0 + second.0,
      record {
        leads = c.events_lead_on.ensures.joined resolved_forms first.0 second.0 s started refused.value first.1.leads
            second.1.leads;
        opening = second.1.opening ∙ first.1.opening;
        submitted = second.1.submitted ∙ first.1.submitted;
      },
    ))
    c.end.ensures.handed_back

pub returns-in-Ok-clause-submitted : goal.returns-in-Ok-clause-submitted
returns-in-Ok-clause-submitted c =
    if_ok c.end.result (λ new ended. ended.leads_on.submitted ∙ c.start.ensures.events.1.submitted) c.end.ensures.ok
