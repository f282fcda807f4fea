use Rattle.std.proofs.Common.{◌≡◌, ◌∙◌, true, sym, subst, ap, ℕ}
use Rattle.ent_waiting.specs.WaitingList.{WaitingList, Onward, waiter_of, waits_idle}
use Rattle.ent_waiting.specs.contracts.waiting_list.WaitingList.{the_view}
use Rattle.ent_waiting.proofs.Keeping.{idle, kept_over, onward_over}
use Rattle.ent_waiting.proofs.waiting_list.WaitingList.put_idle.Goals as goal

pub invariant_of-self-2 : goal.invariant_of-self-2
invariant_of-self-2 c =
    let old = the_view c.self.inside in
    let n = c.number.result in
    let e : waits_idle (waiter_of old n) ≡ true =
    ap (λ (k : ℕ). waits_idle (waiter_of old k)) c.number.ensures
    ∙ ap (λ (l : WaitingList). waits_idle (waiter_of l c.args.ticket)) c.self.view_is
    ∙ sym c.waits_idle.ensures ∙ c.if-not-waits_idle.false in
    let waits = idle (waiter_of old n) e in
    kept_over old c.move_to.new.waiters.entries n waits.0 (record waits.0 { place = c.args.place }) waits.1
    (c.in_ok-move_to.ensures.updates waits.0 waits.1) c.self.inside.queues c.move_to.new.queues c.self.invariant
    c.move_to.ensures.kept_queued

pub returns-clause-onward : goal.returns-clause-onward
returns-clause-onward c =
    let old = the_view c.self.inside in
    let n = c.number.result in
    let e : waits_idle (waiter_of old n) ≡ true =
    ap (λ (k : ℕ). waits_idle (waiter_of old k)) c.number.ensures
    ∙ ap (λ (l : WaitingList). waits_idle (waiter_of l c.args.ticket)) c.self.view_is
    ∙ sym c.waits_idle.ensures ∙ c.if-not-waits_idle.false in
    let waits = idle (waiter_of old n) e in
    subst (λ (l : WaitingList). Onward l (record old { waiters = c.move_to.new.waiters.entries })) c.self.view_is
    (onward_over old c.move_to.new.waiters.entries n waits.0 (record waits.0 { place = c.args.place }) waits.1
    (c.in_ok-move_to.ensures.updates waits.0 waits.1))
