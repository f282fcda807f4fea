use Rattle.std.proofs.Common.{◌<◌, vec_len}
use Rattle.ent_serve.specs.Seats.{SameSeats}
use Rattle.ent_serve.proofs.workers.close_all.Given as goal

abbrev pub invariant-loop : goal.invariant-loop
invariant-loop g l = record { same : SameSeats l.fn.sessions.items l.sessions.items; some : 0 < vec_len l.sessions }
