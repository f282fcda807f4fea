use Rattle.std.proofs.Common.{◌≡◌, take}
use Rattle.ent_lock.specs.Use.{IsLeastIfAny}
use Rattle.ent_protocol.specs.Member.{pool}
use Rattle.ent_protocol.specs.State.{State}
use Rattle.ent_waits.proofs.Outs.{HasJobIn}
use Rattle.ent_waits.proofs.jobs.job_out.Given as goal

-- the least of the jobs so far
abbrev pub invariant-loop-job : goal.invariant-loop-job
invariant-loop-job l = (s : State) → pool s ≡ l.pool → IsLeastIfAny (HasJobIn s (take l.job-index l.lent)) l.least
