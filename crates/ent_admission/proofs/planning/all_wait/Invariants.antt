use Rattle.std.proofs.Common.{◌≡◌, All, take, true}
use Rattle.ent_waiting.specs.WaitingList.{waiter_of, waits_idle}
use Rattle.ent_admission.proofs.planning.all_wait.Given as goal

abbrev pub invariant-loop-ticket : goal.invariant-loop-ticket
invariant-loop-ticket l = All (λ ticket. waits_idle (waiter_of l.list ticket) ≡ true) (take l.ticket-index l.tickets)
