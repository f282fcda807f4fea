use Rattle.std.proofs.Common.{◌≡◌, ◌∙◌, Some, List, refl, sym, subst, ap, ℕ}
use Rattle.ent_lists.proofs.Options.{some_value}
use Rattle.ent_waiting.specs.WaitingList.{WaitingList, IsKept, Onward, ended_as, waiter_of}
use Rattle.ent_waiting.specs.declared.ended.Ended.{Ended}
use Rattle.ent_waiting.specs.contracts.waiting_list.WaitingList.{the_view}
use Rattle.ent_waiting.proofs.Keeping.{kept_without, onward_without}
use Rattle.ent_waiting.proofs.waiting_list.WaitingList.finish.Goals as goal

pub invariant_of-self-2 : goal.invariant_of-self-2
invariant_of-self-2 c =
    let old = the_view c.self.inside in
    let n = c.number.result in
    let found = some_value (waiter_of c.args.self.now c.args.ticket) c.requires.there in
    let waits : waiter_of old n ≡ Some found.0 =
    ap (λ (k : ℕ). waiter_of old k) c.number.ensures
    ∙ ap (λ (l : WaitingList). waiter_of l c.args.ticket) c.self.view_is ∙ found.1 in
    let one = ended_as n c.args.ending c.args.counts found.0 in
    let ws = c.finish.new.waiters.entries in
    subst (λ (es : List Ended). IsKept (record old { waiters = ws; ended = es }) c.finish.new.queues)
    (sym (c.in_ok-finish.ensures.ended found.0 waits))
    (kept_without old ws n found.0 one waits c.in_ok-finish.ensures.updates refl c.self.inside.queues c.self.invariant
    c.finish.new.queues c.finish.ensures.kept_queued)

pub returns-clause-onward : goal.returns-clause-onward
returns-clause-onward c =
    let old = the_view c.self.inside in
    let n = c.number.result in
    let found = some_value (waiter_of c.args.self.now c.args.ticket) c.requires.there in
    let waits : waiter_of old n ≡ Some found.0 =
    ap (λ (k : ℕ). waiter_of old k) c.number.ensures
    ∙ ap (λ (l : WaitingList). waiter_of l c.args.ticket) c.self.view_is ∙ found.1 in
    let one = ended_as n c.args.ending c.args.counts found.0 in
    let ws = c.finish.new.waiters.entries in
    subst (λ (l : WaitingList). Onward l (record old { waiters = ws; ended = c.finish.new.ended.items })) c.self.view_is
    (subst (λ (es : List Ended). Onward old (record old { waiters = ws; ended = es }))
    (sym (c.in_ok-finish.ensures.ended found.0 waits))
    (onward_without old ws n found.0 one waits c.in_ok-finish.ensures.updates refl c.self.inside.queues
    c.self.invariant))
