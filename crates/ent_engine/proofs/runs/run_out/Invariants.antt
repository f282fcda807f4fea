use Rattle.std.proofs.Common.{ℕ}
use Rattle.ent_sched.specs.Passed.{resolved_forms}
use Rattle.ent_sched.specs.Onward.{LeadsOn}
use Rattle.ent_engine.proofs.runs.run_out.Given as goal

-- events lead from the core that was handed in to the present one
abbrev pub invariant-loop : goal.invariant-loop
invariant-loop g l = record { led : (count : ℕ) × LeadsOn resolved_forms count l.fn.core l.counted.core }
