use Rattle.std.proofs.Common.{◌∙◌, Some}
use Rattle.std.specs.Map.{lookup}
use Rattle.std.specs.BTreeMap.{is_at}
use Rattle.std.specs.Ordering.{nat_cmp}
use Rattle.ent_lists.proofs.Options.{some_value}
use Rattle.ent_waiting.specs.Waiter.{back_in}
use Rattle.ent_waiting.proofs.Keeping.{queue_again, queued_at}
use Rattle.ent_waiting.proofs.waiting_list.come_back.Goals as goal

pub returns-in-Ok-clause-kept_queued : goal.returns-in-Ok-clause-kept_queued
returns-in-Ok-clause-kept_queued c =
    let old = c.args.waiters.now.entries in
    let waits = some_value (lookup (is_at (nat_cmp c.args.ticket)) old) c.requires.there in
    let first = c.args.queues.now in
    let made = queue_again first c.enter.new.queues c.quit.new.queues c.args.ticket c.args.rank
    (λ station. c.requires.queued station c.args.ticket ∙ c.requires.in_batch station) c.in_ok-enter.ensures.ok
    c.quit.ensures in
    queued_at old c.write_back.new.waiters.entries first c.quit.new.queues c.args.ticket
    (Some (back_in c.args.rank c.args.counts c.args.alone waits.0)) c.requires.queued
    (c.in-Ok.ensures.updates waits.0 waits.1) made
