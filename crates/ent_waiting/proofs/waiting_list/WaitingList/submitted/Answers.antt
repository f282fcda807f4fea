use Rattle.std.proofs.Common.{◌≡◌, ◌∙◌, Some, sym, subst, ap, ℕ}
use Rattle.ent_waiting.specs.Queues.{stands_in}
use Rattle.ent_waiting.specs.WaitingList.{WaitingList, Onward, waiter_of}
use Rattle.ent_waiting.specs.declared.waiter.WaitingPlace.TheVariants.{Submitted}
use Rattle.ent_waiting.specs.contracts.waiting_list.WaitingList.{the_view}
use Rattle.ent_waiting.proofs.Keeping.{kept_over, like_chosen, onward_over, queued_over}
use Rattle.ent_waiting.proofs.waiting_list.WaitingList.submitted.Goals as goal

pub invariant_of-self : goal.invariant_of-self
invariant_of-self c =
    let old = the_view c.self.inside in
    let n = c.number.result in
    let waiter = c.requires.chosen.waiter in
    let after = record waiter { place = Submitted c.args.submission } in
    let new = c.put_at.new.waiters.entries in
    let queues = c.self.inside.queues in
    let waits : waiter_of old n ≡ Some waiter =
    ap (λ (k : ℕ). waiter_of old k) c.number.ensures
    ∙ ap (λ (l : WaitingList). waiter_of l c.args.ticket) c.self.view_is ∙ c.requires.chosen.waits in
    let updates = c.put_at.ensures.updates waiter waits in
    kept_over old new n waiter after waits updates queues queues c.self.invariant
    (queued_over old.waiters new queues n waiter after waits updates
    (λ station. like_chosen station c.args.submission ∙ sym (ap (stands_in station) c.requires.chosen.place_is))
    c.self.invariant.queued)

pub returns-clause-onward : goal.returns-clause-onward
returns-clause-onward c =
    let old = the_view c.self.inside in
    let n = c.number.result in
    let waiter = c.requires.chosen.waiter in
    let after = record waiter { place = Submitted c.args.submission } in
    let new = c.put_at.new.waiters.entries in
    let waits : waiter_of old n ≡ Some waiter =
    ap (λ (k : ℕ). waiter_of old k) c.number.ensures
    ∙ ap (λ (l : WaitingList). waiter_of l c.args.ticket) c.self.view_is ∙ c.requires.chosen.waits in
    subst (λ (l : WaitingList). Onward l (record old { waiters = new })) c.self.view_is
    (onward_over old new n waiter after waits (c.put_at.ensures.updates waiter waits))
