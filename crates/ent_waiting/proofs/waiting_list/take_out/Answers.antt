use Rattle.std.proofs.Common.{◌∙◌, sym, ap, None}
use Rattle.ent_waiting.specs.WaitingList.{is_stationed}
use Rattle.ent_waiting.proofs.Keeping.{in_none, queued_at}
use Rattle.ent_waiting.proofs.waiting_list.take_out.Goals as goal

pub returns-clause-kept_queued : goal.returns-clause-kept_queued
returns-clause-kept_queued c =
    let first = c.args.queues.now in
    let last = c.quit.new.queues in
    queued_at c.args.waiters.now.entries c.remove.new.self.entries first last c.args.ticket None c.requires.queued
    c.remove.ensures.updates.0
    (in_none first last c.args.ticket c.in-Some.waiter.place
    (λ station. c.requires.queued station c.args.ticket ∙ ap (is_stationed station) (sym c.in-Some.ensures.value))
    c.quit.ensures)
