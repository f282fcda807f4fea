use Rattle.std.proofs.Common.{refl}
use Rattle.ent_core.specs.Reply.{reply_seen}
use Rattle.ent_protocol.specs.Event.{EndRun}
use Rattle.ent_core.specs.Passed.{resolved_forms}
use Rattle.ent_sched.proofs.Started.{run_over}
use Rattle.ent_sched.proofs.Watched.{one_watched, unwatched}
use Rattle.ent_sched.proofs.one_run.end.Goals as goal

pub returns-clause-events : goal.returns-clause-events
returns-clause-events g c =
    c.events_add_up.ensures.one resolved_forms EndRun (reply_seen c.in_ok-end_run.field-0) c.args.counted.now
    c.end_run.new.self c.in_ok-end_run.ensures.ok refl

pub returns-clause-none_lent : goal.returns-clause-none_lent
returns-clause-none_lent g c =
    let s = c.args.counted.now.core in
    let new = c.end_run.new.self.core in
    let reply = reply_seen c.in_ok-end_run.field-0 in
    let step = c.in_ok-end_run.ensures.ok.step in
    let quiet = c.idle_rounds_are_quiet.ensures.quiet resolved_forms s c.is_reached.ensures.reached c.requires.idle in
    (run_over resolved_forms s reply new step
    (λ on. (c.idle_rounds_are_quiet.ensures.ends resolved_forms s reply new quiet on step).1)
    c.requires.idle.none_lent).1

pub returns-clause-ended : goal.returns-clause-ended
returns-clause-ended g c =
    let s = c.args.counted.now.core in
    let new = c.end_run.new.self.core in
    let reply = reply_seen c.in_ok-end_run.field-0 in
    let step = c.in_ok-end_run.ensures.ok.step in
    let quiet = c.idle_rounds_are_quiet.ensures.quiet resolved_forms s c.is_reached.ensures.reached c.requires.idle in
    (run_over resolved_forms s reply new step
    (λ on. (c.idle_rounds_are_quiet.ensures.ends resolved_forms s reply new quiet on step).1)
    c.requires.idle.none_lent).0

pub returns-clause-watched : goal.returns-clause-watched
returns-clause-watched g c =
    one_watched resolved_forms g.W.Watcher.hears EndRun (reply_seen c.in_ok-end_run.field-0) c.args.counted.now
    c.end_run.new.self c.args.watcher.now c.end_run.new.watcher c.in_ok-end_run.ensures.ok c.in_ok-end_run.ensures.told
    (λ e. cc)

pub returns-in_err-end_run-clause-watched : goal.returns-in_err-end_run-clause-watched
returns-in_err-end_run-clause-watched g c =
    unwatched resolved_forms g.W.Watcher.hears c.args.counted.now c.end_run.new.self c.args.watcher.now
    c.end_run.new.watcher c.is_reached.ensures.bound c.in_err-end_run.ensures.err.0 c.in_err-end_run.ensures.err.1
