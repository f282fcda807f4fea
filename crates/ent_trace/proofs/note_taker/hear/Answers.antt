use Rattle.std.proofs.Common.{◌∙◌}
use Rattle.ent_sched.specs.Passed.{reply_seen}
use Rattle.ent_trace.proofs.Hearing.{heard}
use Rattle.ent_trace.proofs.note_taker.hear.Goals as goal

pub returns-in-Some : goal.returns-in-Some
returns-in-Some c = λ event told.
    heard c.in-Some.own c.as_slice.result.now c.news_of-of.result.change event
    (reply_seen c.args.reply.now) c.args.notes.now c.change_each.new.self (c.in-Some.ensures event told)
    (c.as_slice.ensures.list ∙ c.news_of-of.ensures.of) c.news_of-of.ensures.change c.change_each.ensures
