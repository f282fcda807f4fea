use Rattle.std.proofs.Common.{sym, subst, refl, ◌∙◌}
use Rattle.ent_core.specs.Reply.{reply_seen}
use Rattle.ent_protocol.specs.Event.{BreakCycle}
use Rattle.ent_protocol.specs.Step.{Step}
use Rattle.ent_core.specs.Passed.{resolved_forms}
use Rattle.ent_sched.proofs.Moving.{broken_lends_none, no_cycle, none_lent}
use Rattle.ent_sched.proofs.Watched.{one_watched}
use Rattle.ent_sched.proofs.deadlock.break_deadlock.Goals as goal

pub returns-clause-events : goal.returns-clause-events
returns-clause-events g c =
    c.events_add_up.ensures.one resolved_forms BreakCycle (reply_seen c.break_cycle-reply.result) c.args.counted.now
    c.break_cycle-reply.new.self c.break_cycle-reply.ensures.made refl

pub returns-clause-none_lent : goal.returns-clause-none_lent
returns-clause-none_lent g c =
    let s = c.args.counted.now.core in
    let reply = reply_seen c.break_cycle-reply.result in
    let new = c.break_cycle-reply.new.self.core in
    c.jobs_are_lent_by_replies.ensures.lent resolved_forms s BreakCycle reply new c.requires.none_lent
    c.break_cycle-reply.ensures.made.step
    ∙ none_lent reply (broken_lends_none s reply new c.break_cycle-reply.ensures.made.step)

pub returns-clause-progress : goal.returns-clause-progress
returns-clause-progress g c = λ moved most left within.
    c.progress_uses_up.ensures resolved_forms c.args.counted.now.core BreakCycle
    (reply_seen c.break_cycle-reply.result) c.break_cycle-reply.new.self.core most left c.is_reached.ensures.reached
    c.break_cycle-reply.ensures.made.step (sym c.told_of_progress.ensures ∙ moved) within

pub returns-clause-idle : goal.returns-clause-idle
returns-clause-idle g c = λ still.
    let s = c.args.counted.now.core in
    let reply = reply_seen c.break_cycle-reply.result in
    let new = c.break_cycle-reply.new.self.core in
    let none = no_cycle s reply new c.break_cycle-reply.ensures.made.step (sym c.told_of_progress.ensures ∙ still) in
    (none.1, (new, subst (λ r. Step resolved_forms s BreakCycle r new) none.0 c.break_cycle-reply.ensures.made.step))

pub returns-clause-watched : goal.returns-clause-watched
returns-clause-watched g c =
    one_watched resolved_forms g.W.Watcher.hears BreakCycle (reply_seen c.break_cycle-reply.result) c.args.counted.now
    c.break_cycle-reply.new.self c.args.watcher.now c.break_cycle-reply.new.watcher
    c.break_cycle-reply.ensures.made c.break_cycle-reply.ensures.told (λ e. cc)
