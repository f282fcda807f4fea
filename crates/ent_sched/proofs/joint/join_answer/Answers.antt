use Rattle.std.proofs.Common.{refl}
use Rattle.ent_core.specs.Reply.{reply_seen}
use Rattle.ent_protocol_laws.specs.Lending.{IsLentAlone}
use Rattle.ent_protocol.specs.Event.{JoinAnswer, Lent, Pick}
use Rattle.ent_core.specs.Passed.{resolved_forms}
use Rattle.ent_sched.proofs.Moving.{joint_progress}
use Rattle.ent_sched.proofs.Watched.{one_watched, unwatched}
use Rattle.ent_sched.proofs.joint.join_answer.Goals as goal

pub join_answer_at_once-requires-clause-alone : goal.join_answer_at_once-requires-clause-alone
join_answer_at_once-requires-clause-alone g c =
    let lent = c.requires.lent in
    c.jobs_are_lent_by_replies.ensures.lent resolved_forms lent.before Pick (Lent c.args.done.job)
    c.args.counted.now.core lent.none_lent lent.lends

pub join_answer_at_once-requires-clause-outstanding : goal.join_answer_at_once-requires-clause-outstanding
join_answer_at_once-requires-clause-outstanding g c =
    let lent = c.requires.lent in
    let alone : IsLentAlone resolved_forms lent.before Pick c.args.done c.args.counted.now.core =
    record { none_lent = lent.none_lent; lends = lent.lends } in
    c.results_are_taken_at_once.ensures.joint resolved_forms lent.before c.args.done c.args.counted.now.core alone

pub returns-in-Ok-clause-events : goal.returns-in-Ok-clause-events
returns-in-Ok-clause-events g c =
    c.events_add_up.ensures.one resolved_forms (JoinAnswer c.args.done) (reply_seen c.in-Ok.reply) c.args.counted.now
    c.join_answer_at_once.new.self c.in-Ok.ensures.ok refl

pub returns-in-Ok-clause-none_lent : goal.returns-in-Ok-clause-none_lent
returns-in-Ok-clause-none_lent g c =
    let lent = c.requires.lent in
    let alone : IsLentAlone resolved_forms lent.before Pick c.args.done c.args.counted.now.core =
    record { none_lent = lent.none_lent; lends = lent.lends } in
    c.results_are_taken_at_once.ensures.joint_returned resolved_forms lent.before c.args.done c.args.counted.now.core
    (reply_seen c.in-Ok.reply) c.join_answer_at_once.new.self.core alone c.in-Ok.ensures.ok.step

pub returns-in-Ok-clause-progress : goal.returns-in-Ok-clause-progress
returns-in-Ok-clause-progress g c = λ most left within.
    let lent = c.requires.lent in
    let s = c.args.counted.now.core in
    let new = c.join_answer_at_once.new.self.core in
    let reply = reply_seen c.in-Ok.reply in
    let alone : IsLentAlone resolved_forms lent.before Pick c.args.done s =
    record { none_lent = lent.none_lent; lends = lent.lends } in
    let taken = c.results_are_taken_at_once.ensures.joint_taken resolved_forms lent.before c.args.done s reply new
    alone c.in-Ok.ensures.ok.step in
    c.progress_uses_up.ensures resolved_forms s (JoinAnswer c.args.done) reply new most left
    c.is_reached.ensures.reached c.in-Ok.ensures.ok.step (joint_progress reply taken) within

pub returns-in-Ok-clause-watched : goal.returns-in-Ok-clause-watched
returns-in-Ok-clause-watched g c =
    one_watched resolved_forms g.W.Watcher.hears (JoinAnswer c.args.done) (reply_seen c.in-Ok.reply) c.args.counted.now
    c.join_answer_at_once.new.self c.args.watcher.now c.join_answer_at_once.new.watcher c.in-Ok.ensures.ok
    c.in-Ok.ensures.told (λ e. cc)

pub returns-in-Err-clause-watched : goal.returns-in-Err-clause-watched
returns-in-Err-clause-watched g c =
    unwatched resolved_forms g.W.Watcher.hears c.args.counted.now c.join_answer_at_once.new.self c.args.watcher.now
    c.join_answer_at_once.new.watcher c.is_reached.ensures.bound c.in-Err.ensures.err.0 c.in-Err.ensures.err.1
