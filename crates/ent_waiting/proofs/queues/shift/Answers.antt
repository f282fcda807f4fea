use Rattle.ent_waiting.proofs.Keeping.{shifts}
use Rattle.ent_waiting.proofs.queues.shift.Goals as goal

pub returns-clause-ok : goal.returns-clause-ok
returns-clause-ok c =
    shifts c.args.queues.now c.enter.new.queues c.quit.new.queues c.args.ticket c.args.from c.args.to
    (c.are_apart.ensures.apart c.if-not-are_apart.false)
    c.requires.there c.in_ok-enter.ensures.ok c.quit.ensures
