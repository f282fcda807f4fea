use Rattle.std.proofs.Common.{take}
use Rattle.ent_lock.specs.Use.{IsLeastIfAny}
use Rattle.ent_waits.specs.Jobs.{HasPostedQuery}
use Rattle.ent_waits.proofs.jobs.least_of.Given as goal

-- the least of the statements so far
abbrev pub invariant-loop-query : goal.invariant-loop-query
invariant-loop-query l = IsLeastIfAny (HasPostedQuery (take l.query-index l.asked)) l.least
