use Rattle.std.proofs.Common.{◌∙◌, refl, sym}
use Rattle.ent_core.specs.Reply.{reply_seen}
use Rattle.ent_protocol.specs.Event.{StartRun}
use Rattle.ent_core.specs.Passed.{resolved_forms}
use Rattle.ent_sched.proofs.Started.{lent_of, off_of, on_of, started}
use Rattle.ent_sched.proofs.Watched.{not_started, start_watched}
use Rattle.ent_sched.proofs.one_run.start.Goals as goal

pub returns-clause-events : goal.returns-clause-events
returns-clause-events g c =
    c.events_add_up.ensures.one resolved_forms StartRun (reply_seen c.in_ok-start_run.field-0) c.args.counted.now
    c.start_run.new.self c.in_ok-start_run.ensures.ok refl

pub returns-clause-none_lent : goal.returns-clause-none_lent
returns-clause-none_lent g c =
    let s = c.args.counted.now.core in
    let new = c.start_run.new.self.core in
    let off = sym c.running.ensures ∙ c.if-running.false in
    lent_of s new off
    (started s (reply_seen c.in_ok-start_run.field-0) new off c.in_ok-start_run.ensures.ok.step) c.requires.none_lent

pub returns-clause-on : goal.returns-clause-on
returns-clause-on g c on =
    let s = c.args.counted.now.core in
    let new = c.start_run.new.self.core in
    let off = sym c.running.ensures ∙ c.if-running.false in
    on_of s new off (started s (reply_seen c.in_ok-start_run.field-0) new off c.in_ok-start_run.ensures.ok.step)
    (sym c.running-2.ensures ∙ on)

pub returns-clause-off : goal.returns-clause-off
returns-clause-off g c none =
    let s = c.args.counted.now.core in
    let new = c.start_run.new.self.core in
    let off = sym c.running.ensures ∙ c.if-running.false in
    off_of s new off (started s (reply_seen c.in_ok-start_run.field-0) new off c.in_ok-start_run.ensures.ok.step)
    (sym c.running-2.ensures ∙ none)

pub returns-clause-watched : goal.returns-clause-watched
returns-clause-watched g c =
    start_watched resolved_forms g.W.Watcher.hears (reply_seen c.in_ok-start_run.field-0) c.args.counted.now
    c.start_run.new.self c.args.watcher.now c.start_run.new.watcher c.in_ok-start_run.ensures.ok
    c.in_ok-start_run.ensures.told

pub returns-then-running-clause-watched : goal.returns-then-running-clause-watched
returns-then-running-clause-watched g c =
    not_started resolved_forms g.W.Watcher.hears c.args.counted.now c.args.counted.now c.args.watcher.now
    c.args.watcher.now c.is_reached.ensures.bound refl refl

pub returns-in_err-start_run-clause-watched : goal.returns-in_err-start_run-clause-watched
returns-in_err-start_run-clause-watched g c =
    not_started resolved_forms g.W.Watcher.hears c.args.counted.now c.start_run.new.self c.args.watcher.now
    c.start_run.new.watcher c.is_reached.ensures.bound c.in_err-start_run.ensures.err.0 c.in_err-start_run.ensures.err.1
