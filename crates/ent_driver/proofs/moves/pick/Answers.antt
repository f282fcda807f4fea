use Rattle.std.proofs.Common.{inr, subst}
use Rattle.ent_core.specs.Reply.{reply_seen}
use Rattle.ent_core.specs.declared.reply.Reply.{Reply}
use Rattle.ent_sched.specs.Passed.{resolved_forms}
use Rattle.ent_protocol.specs.Event.{Pick}
use Rattle.ent_protocol.specs.Job.{Job}
use Rattle.ent_protocol.specs.Step.{Step}
use Rattle.ent_driver.specs.Moves.{TakesResult}
use Rattle.ent_driver.proofs.moves.pick.Goals as goal

pub returns-in_ok-answer-in-Lent-clause-ok : goal.returns-in_ok-answer-in-Lent-clause-ok
returns-in_ok-answer-in-Lent-clause-ok c =
    let s = c.args.core.now in
    let lent = c.pick.new.self in
    let new = c.answer.new.core in
    let reply = reply_seen c.in_ok-answer-in-Lent.field-0 in
    inr (record {
      job = c.in-Lent.job;
      lent = lent;
      lends = subst (λ (told : Reply). Step resolved_forms s Pick (reply_seen told) lent) c.in-Lent.is
          c.in_ok-reply.ensures.ok;
      takes = subst (λ (job : Job). TakesResult Pick job lent reply new) c.in_ok-done-in-Lent.ensures.ok
          c.in_ok-answer-in-Lent.ensures.ok;
    })
