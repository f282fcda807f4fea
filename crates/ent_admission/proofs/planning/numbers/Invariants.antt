use Rattle.std.proofs.Common.{◌≡◌, map}
use Rattle.ent_admission.proofs.planning.numbers.Given as goal

abbrev pub invariant-loop-ticket : goal.invariant-loop-ticket
invariant-loop-ticket l = l.numbers.items ≡ map (λ ticket. ticket.now) l.yielded
