use Rattle.std.proofs.Common.{ℕ, take}
use Rattle.std.specs.Prelude.{Contains}
use Rattle.ent_semantics.specs.Pool.{Posted}
use Rattle.ent_match.specs.Fault.{MeetsOne}
use Rattle.ent_match.proofs.fault.fault_of.Given as goal

-- the posts of the statements so far unify with heads of one statement at most
abbrev pub invariant-loop-asker : goal.invariant-loop-asker
invariant-loop-asker l =
    (asker : Posted) (index : ℕ) → Contains (take l.asker-index l.members) asker → MeetsOne l.members asker index
