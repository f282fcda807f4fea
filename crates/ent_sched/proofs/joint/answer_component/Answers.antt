use Rattle.std.proofs.Common.{◌≡◌, false, true, subst, ap, refl, ◌∙◌, arith}
use Rattle.ent_protocol_laws.specs.Progress.{brings_work}
use Rattle.ent_core.specs.Reply.{reply_seen}
use Rattle.ent_protocol.specs.Event.{Pick}
use Rattle.ent_protocol.specs.State.{State}
use Rattle.ent_protocol.specs.Step.{Step}
use Rattle.ent_core.specs.Passed.{resolved_forms}
use Rattle.ent_sched.proofs.Moving.{nothing_picked}
use Rattle.ent_sched.proofs.NoneLent.{lends_none}
use Rattle.ent_sched.proofs.Watched.{one_watched, unwatched, watched_on}
use Rattle.ent_sched.proofs.joint.answer_component.Goals as goal

pub returns-in_err-answer-in-Lent-clause-events : goal.returns-in_err-answer-in-Lent-clause-events
returns-in_err-answer-in-Lent-clause-events g c =
    let first = c.args.counted.now in
    let middle = c.pick.new.self in
    let picked = c.events_add_up.ensures.one resolved_forms Pick (reply_seen c.in_ok-reply.reply) first middle
    c.in_ok-reply.ensures.ok refl in
    c.events_add_up.ensures.joined resolved_forms 1 1 first middle c.answer.new.counted picked
    c.in_err-answer-in-Lent.ensures.events

pub returns-in_ok-answer-in-Lent-clause-events : goal.returns-in_ok-answer-in-Lent-clause-events
returns-in_ok-answer-in-Lent-clause-events g c =
    let first = c.args.counted.now in
    let middle = c.pick.new.self in
    let picked = c.events_add_up.ensures.one resolved_forms Pick (reply_seen c.in_ok-reply.reply) first middle
    c.in_ok-reply.ensures.ok refl in
    c.events_add_up.ensures.joined resolved_forms 1 1 first middle c.answer.new.counted picked
    c.in_ok-answer-in-Lent.ensures.events

pub returns-in_ok-answer-in-Lent-clause-progress : goal.returns-in_ok-answer-in-Lent-clause-progress
returns-in_ok-answer-in-Lent-clause-progress g c = λ moved most left within.
    c.in_ok-answer-in-Lent.ensures.progress most left
    (c.steps_stay_within.ensures resolved_forms c.args.counted.now.core Pick (reply_seen c.in_ok-reply.reply)
    c.pick.new.self.core most left c.is_reached.ensures.reached c.in_ok-reply.ensures.ok.step
    (ap (λ reply. brings_work (reply_seen reply)) c.in-Lent.is) within)

pub returns-in_default : goal.returns-in_default
returns-in_default g c =
    let first = c.args.counted.now in
    let last = c.pick.new.self in
    let step = c.in_ok-reply.ensures.ok.step in
    let reply = reply_seen c.in_ok-reply.reply in
    let none = nothing_picked first.core reply last.core step
    (lends_none c.in_ok-reply.reply c.in_default.not-Lent) in
    record {
      events = c.events_add_up.ensures.widened resolved_forms 1 2 first last (omega arith)
          (c.events_add_up.ensures.one resolved_forms Pick reply first last c.in_ok-reply.ensures.ok refl);
      watched = one_watched resolved_forms g.W.Watcher.hears Pick reply first last c.args.watcher.now
          c.pick.new.watcher c.in_ok-reply.ensures.ok c.in_ok-reply.ensures.told (λ e. cc);
      none_lent = ap (λ (x : State). x.lent) none.1 ∙ c.requires.none_lent;
      progress = λ (moved : false ≡ true). absurd cc;
      idle = λ still.
          (none.1, (last.core, subst (λ r. Step resolved_forms first.core Pick r last.core) none.0 step));
    }

pub returns-in_err-answer-in-Lent-clause-watched : goal.returns-in_err-answer-in-Lent-clause-watched
returns-in_err-answer-in-Lent-clause-watched g c =
    let first = c.args.counted.now in
    let middle = c.pick.new.self in
    let one = one_watched resolved_forms g.W.Watcher.hears Pick (reply_seen c.in_ok-reply.reply) first middle
    c.args.watcher.now c.pick.new.watcher c.in_ok-reply.ensures.ok c.in_ok-reply.ensures.told (λ e. cc) in
    watched_on resolved_forms g.W.Watcher.hears first middle c.answer.new.counted c.args.watcher.now
    c.pick.new.watcher c.answer.new.watcher one c.in_err-answer-in-Lent.ensures.watched

pub returns-in_ok-answer-in-Lent-clause-watched : goal.returns-in_ok-answer-in-Lent-clause-watched
returns-in_ok-answer-in-Lent-clause-watched g c =
    let first = c.args.counted.now in
    let middle = c.pick.new.self in
    let one = one_watched resolved_forms g.W.Watcher.hears Pick (reply_seen c.in_ok-reply.reply) first middle
    c.args.watcher.now c.pick.new.watcher c.in_ok-reply.ensures.ok c.in_ok-reply.ensures.told (λ e. cc) in
    watched_on resolved_forms g.W.Watcher.hears first middle c.answer.new.counted c.args.watcher.now
    c.pick.new.watcher c.answer.new.watcher one c.in_ok-answer-in-Lent.ensures.watched

pub returns-in_err-reply-clause-watched : goal.returns-in_err-reply-clause-watched
returns-in_err-reply-clause-watched g c =
    unwatched resolved_forms g.W.Watcher.hears c.args.counted.now c.pick.new.self c.args.watcher.now
    c.pick.new.watcher c.is_reached.ensures.bound c.in_err-reply.ensures.err.0 c.in_err-reply.ensures.err.1
