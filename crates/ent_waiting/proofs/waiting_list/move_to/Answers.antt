use Rattle.std.proofs.Common.{Some, sym}
use Rattle.std.specs.Map.{lookup}
use Rattle.std.specs.BTreeMap.{is_at}
use Rattle.std.specs.Ordering.{nat_cmp}
use Rattle.ent_waiting.proofs.Keeping.{placed, queued_at}
use Rattle.ent_waiting.proofs.waiting_list.move_to.Goals as goal

pub returns-clause-kept_queued : goal.returns-clause-kept_queued
returns-clause-kept_queued c =
    let old = c.args.waiters.now.entries in
    let found = lookup (is_at (nat_cmp c.args.ticket)) old in
    let waits = placed found c.in-Some.old (sym c.in-Some.ensures) in
    queued_at old c.put_at.new.waiters.entries c.args.queues.now c.shift.new.queues c.args.ticket
    (Some (record waits.0 { place = c.args.place })) c.requires.queued (c.put_at.ensures.updates waits.0 waits.1)
    c.in_ok-shift.ensures.ok
