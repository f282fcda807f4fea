use Rattle.ent_serve.specs.Seats.{KeepsSeats}
use Rattle.ent_serve.proofs.workers.work_on.Given as goal

abbrev pub invariant-loop : goal.invariant-loop
invariant-loop g l = KeepsSeats l.fn.session l.session
