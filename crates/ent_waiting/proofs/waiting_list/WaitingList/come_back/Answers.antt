use Rattle.std.proofs.Common.{◌≡◌, ◌∙◌, Some, subst, ap, ℕ}
use Rattle.ent_waiting.specs.Waiter.{back_in}
use Rattle.ent_waiting.specs.WaitingList.{WaitingList, Onward, waiter_of}
use Rattle.ent_waiting.specs.contracts.waiting_list.WaitingList.{the_view}
use Rattle.ent_waiting.proofs.Keeping.{kept_over, onward_over}
use Rattle.ent_waiting.proofs.waiting_list.WaitingList.come_back.Goals as goal

pub invariant_of-self-2 : goal.invariant_of-self-2
invariant_of-self-2 c =
    let old = the_view c.self.inside in
    let n = c.number.result in
    let stands = c.requires.submitted.1 in
    let waits : waiter_of old n ≡ Some stands.waiter =
    ap (λ (k : ℕ). waiter_of old k) c.number.ensures
    ∙ ap (λ (l : WaitingList). waiter_of l c.args.ticket) c.self.view_is ∙ stands.waits in
    kept_over old c.come_back.new.waiters.entries n stands.waiter
    (back_in c.args.rank c.args.counts c.args.alone stands.waiter) waits
    (c.in_ok-come_back.ensures.updates stands.waiter waits) c.self.inside.queues c.come_back.new.queues c.self.invariant
    c.come_back.ensures.kept_queued

pub returns-clause-onward : goal.returns-clause-onward
returns-clause-onward c =
    let old = the_view c.self.inside in
    let n = c.number.result in
    let stands = c.requires.submitted.1 in
    let waits : waiter_of old n ≡ Some stands.waiter =
    ap (λ (k : ℕ). waiter_of old k) c.number.ensures
    ∙ ap (λ (l : WaitingList). waiter_of l c.args.ticket) c.self.view_is ∙ stands.waits in
    subst (λ (l : WaitingList). Onward l (record old { waiters = c.come_back.new.waiters.entries })) c.self.view_is
    (onward_over old c.come_back.new.waiters.entries n stands.waiter
    (back_in c.args.rank c.args.counts c.args.alone stands.waiter) waits
    (c.in_ok-come_back.ensures.updates stands.waiter waits))
