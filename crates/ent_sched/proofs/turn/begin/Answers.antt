use Rattle.std.proofs.Common.{◌≡◌, sym, ap, refl, ◌∙◌, arith}
use Rattle.ent_protocol_laws.specs.Progress.{brings_work, is_progress}
use Rattle.ent_core.specs.Reply.{reply_seen}
use Rattle.ent_protocol.specs.Event.{Begin}
use Rattle.ent_core.specs.Passed.{resolved_forms}
use Rattle.ent_sched.proofs.Moving.{held_up, none_lent}
use Rattle.ent_sched.proofs.NoneLent.{lends_none}
use Rattle.ent_sched.proofs.Watched.{one_watched, unwatched, watched_on}
use Rattle.ent_sched.proofs.turn.begin.Goals as goal

pub returns-in_err-carry_out-in-Lent-clause-events : goal.returns-in_err-carry_out-in-Lent-clause-events
returns-in_err-carry_out-in-Lent-clause-events g c =
    let first = c.args.counted.now in
    let middle = c.begin.new.self in
    let begun = c.events_add_up.ensures.one resolved_forms (Begin c.args.found.tx) (reply_seen c.in_ok-reply.reply)
    first
    middle c.in_ok-reply.ensures.ok refl in
    c.events_add_up.ensures.joined resolved_forms 1 1 first middle c.carry_out.new.counted begun
    c.in_err-carry_out-in-Lent.ensures.events

pub returns-in_ok-carry_out-in-Lent-clause-events : goal.returns-in_ok-carry_out-in-Lent-clause-events
returns-in_ok-carry_out-in-Lent-clause-events g c =
    let first = c.args.counted.now in
    let middle = c.begin.new.self in
    let begun = c.events_add_up.ensures.one resolved_forms (Begin c.args.found.tx) (reply_seen c.in_ok-reply.reply)
    first
    middle c.in_ok-reply.ensures.ok refl in
    c.events_add_up.ensures.joined resolved_forms 1 1 first middle c.carry_out.new.counted begun
    c.in_ok-carry_out-in-Lent.ensures.events

pub returns-in_ok-carry_out-in-Lent-clause-progress : goal.returns-in_ok-carry_out-in-Lent-clause-progress
returns-in_ok-carry_out-in-Lent-clause-progress g c = λ moved most left within.
    c.in_ok-carry_out-in-Lent.ensures.progress most left
    (c.steps_stay_within.ensures resolved_forms c.args.counted.now.core (Begin c.args.found.tx)
    (reply_seen c.in_ok-reply.reply) c.begin.new.self.core most left c.is_reached.ensures.reached
    c.in_ok-reply.ensures.ok.step (ap (λ reply. brings_work (reply_seen reply)) c.in-Lent.is) within)

pub returns-in_default : goal.returns-in_default
returns-in_default g c =
    let first = c.args.counted.now in
    let last = c.begin.new.self in
    let s = first.core in
    let new = last.core in
    let tx = c.args.found.tx in
    let step = c.in_ok-reply.ensures.ok.step in
    let reply = reply_seen c.in_ok-reply.reply in
    let lends = lends_none c.in_ok-reply.reply c.in_default.not-Lent in
    let same = c.in_default.other-is in
    let ensured = c.told_of_progress.ensures in
    let told : c.told_of_progress.result ≡ is_progress (reply_seen c.in_ok-reply.reply) = cc in
    let taken = c.ready_members_are_answered.ensures resolved_forms s tx c.requires.ready.0 reply new
    c.requires.ready.1 step in
    record {
      events = c.events_add_up.ensures.widened resolved_forms 1 2 first last (omega arith)
          (c.events_add_up.ensures.one resolved_forms (Begin tx) reply first last c.in_ok-reply.ensures.ok refl);
      watched = one_watched resolved_forms g.W.Watcher.hears (Begin tx) reply first last c.args.watcher.now
          c.begin.new.watcher c.in_ok-reply.ensures.ok c.in_ok-reply.ensures.told (λ e. cc);
      none_lent =
          c.jobs_are_lent_by_replies.ensures.lent resolved_forms s (Begin tx) reply new c.requires.none_lent step
          ∙ none_lent reply lends;
      progress = λ moved most left within.
          c.progress_uses_up.ensures resolved_forms s (Begin tx) reply new most left c.is_reached.ensures.reached step
          (sym told ∙ moved) within;
      idle = λ still.
          let idle = held_up reply taken lends (sym told ∙ still) in (
            c.refusals_change_nothing.ensures resolved_forms s (Begin tx) reply new step idle,
            (λ turn is. (reply, idle, (new, step))),
          );
    }

pub returns-in_err-carry_out-in-Lent-clause-watched : goal.returns-in_err-carry_out-in-Lent-clause-watched
returns-in_err-carry_out-in-Lent-clause-watched g c =
    let first = c.args.counted.now in
    let middle = c.begin.new.self in
    let one = one_watched resolved_forms g.W.Watcher.hears (Begin c.args.found.tx) (reply_seen c.in_ok-reply.reply)
    first
    middle c.args.watcher.now c.begin.new.watcher c.in_ok-reply.ensures.ok c.in_ok-reply.ensures.told (λ e. cc) in
    watched_on resolved_forms g.W.Watcher.hears first middle c.carry_out.new.counted c.args.watcher.now
    c.begin.new.watcher c.carry_out.new.watcher one c.in_err-carry_out-in-Lent.ensures.watched

pub returns-in_ok-carry_out-in-Lent-clause-watched : goal.returns-in_ok-carry_out-in-Lent-clause-watched
returns-in_ok-carry_out-in-Lent-clause-watched g c =
    let first = c.args.counted.now in
    let middle = c.begin.new.self in
    let one = one_watched resolved_forms g.W.Watcher.hears (Begin c.args.found.tx) (reply_seen c.in_ok-reply.reply)
    first
    middle c.args.watcher.now c.begin.new.watcher c.in_ok-reply.ensures.ok c.in_ok-reply.ensures.told (λ e. cc) in
    watched_on resolved_forms g.W.Watcher.hears first middle c.carry_out.new.counted c.args.watcher.now
    c.begin.new.watcher c.carry_out.new.watcher one c.in_ok-carry_out-in-Lent.ensures.watched

pub returns-in_err-reply-clause-watched : goal.returns-in_err-reply-clause-watched
returns-in_err-reply-clause-watched g c =
    unwatched resolved_forms g.W.Watcher.hears c.args.counted.now c.begin.new.self c.args.watcher.now
    c.begin.new.watcher c.is_reached.ensures.bound c.in_err-reply.ensures.err.0 c.in_err-reply.ensures.err.1
