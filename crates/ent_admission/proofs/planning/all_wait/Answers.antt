use Rattle.std.proofs.Common.{◌≡◌, ◌∙◌, ℕ, true, sym, ap, get_or}
use Rattle.std.proofs.lemmas.List.Elements.{All-more}
use Rattle.ent_waiting.specs.WaitingList.{waiter_of, waits_idle}
use Rattle.ent_admission.proofs.planning.all_wait.Goals as goal

pub loop-ticket-preserved : goal.loop-ticket-preserved
loop-ticket-preserved c =
    let i = c.loop-ticket.ticket-index in
    let xs = c.args.tickets.now in
    let here : waits_idle (waiter_of c.args.list.now (get_or xs i 0)) ≡ true =
    ap (λ (k : ℕ). waits_idle (waiter_of c.args.list.now k)) (sym c.new.ensures) ∙ sym c.waits_idle.ensures
    ∙ c.if-not-waits_idle.false in
    All-more (λ (t : ℕ). waits_idle (waiter_of c.args.list.now t) ≡ true) xs i 0 c.loop-ticket-test.true
    c.loop-ticket.invariant here
