use Rattle.std.proofs.Common.{◌∙◌, inl, inr, subst}
use Rattle.ent_core.specs.Reply.{reply_seen}
use Rattle.ent_core.specs.declared.reply.Reply.{Reply}
use Rattle.ent_sched.specs.Passed.{resolved_forms}
use Rattle.ent_protocol.specs.Event.{Begin}
use Rattle.ent_protocol.specs.Job.{Job}
use Rattle.ent_protocol.specs.Step.{Step}
use Rattle.ent_sched.proofs.Moving.{none_lent}
use Rattle.ent_sched.proofs.NoneLent.{lends_none}
use Rattle.ent_driver.specs.Moves.{TakesResult}
use Rattle.ent_driver.proofs.moves.begin.Goals as goal

pub returns-in_ok-finish-in-Lent-clause-ok : goal.returns-in_ok-finish-in-Lent-clause-ok
returns-in_ok-finish-in-Lent-clause-ok c =
    let s = c.args.core.now in
    let lent = c.begin.new.self in
    let new = c.finish.new.core in
    let tx = c.args.tx in
    let reply = reply_seen c.in_ok-finish-in-Lent.field-0 in
    inr (record {
      job = c.in-Lent.job;
      lent = lent;
      lends = subst (λ (told : Reply). Step resolved_forms s (Begin tx) (reply_seen told) lent) c.in-Lent.is
          c.in_ok-reply.ensures.ok;
      takes = subst (λ (job : Job). TakesResult (Begin tx) job lent reply new) c.in_ok-done-in-Lent.ensures.ok
          (c.in_ok-finish-in-Lent.ensures.ok tx);
    })

pub returns-in_default-clause-ok : goal.returns-in_default-clause-ok
returns-in_default-clause-ok c =
    let step = c.in_ok-reply.ensures.ok in
    let lends = lends_none c.in_ok-reply.reply c.in_default.not-Lent in
    inl (
      step,
      c.jobs_are_lent_by_replies.ensures.lent resolved_forms c.args.core.now (Begin c.args.tx)
          (reply_seen c.in_ok-reply.reply) c.begin.new.self c.requires.none_lent step
          ∙ none_lent (reply_seen c.in_ok-reply.reply) lends,
    )
