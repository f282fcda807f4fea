use Rattle.std.proofs.Common.{ℕ, ◌<◌}
use Rattle.ent_match.specs.Fault.{MeetsOne}
use Rattle.ent_match.proofs.fault.fault_in.Given as goal

-- the posts so far unify with heads of one statement at most
abbrev pub invariant-loop-index : goal.invariant-loop-index
invariant-loop-index l = (index : ℕ) → index < l.index → MeetsOne l.members l.asker index
