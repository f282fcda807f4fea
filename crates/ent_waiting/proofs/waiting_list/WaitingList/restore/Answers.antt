use Rattle.std.proofs.Common.{sym, subst, ℕ}
use Rattle.ent_waiting.specs.WaitingList.{MayComeBack, WaitingList}
use Rattle.ent_waiting.specs.contracts.waiting_list.WaitingList.{the_view}
use Rattle.ent_waiting.proofs.Keeping.{kept_restored}
use Rattle.ent_waiting.proofs.waiting_list.WaitingList.restore.Goals as goal

pub invariant_of-self-2 : goal.invariant_of-self-2
invariant_of-self-2 c =
    let old = the_view c.self.inside in
    let may : MayComeBack old c.number-number.result =
    subst (λ (k : ℕ). MayComeBack old k) (sym c.number-number.ensures)
    (subst (λ (l : WaitingList). MayComeBack l c.args.ticket) (sym c.self.view_is) c.in_default.ensures.may) in
    kept_restored old c.admit.new.waiters.entries c.number-number.result c.new-waiter.result
    c.in_ok-admit.ensures.updates may
    c.self.inside.queues c.self.invariant c.admit.new.queues c.admit.ensures.kept_queued
