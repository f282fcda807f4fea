use Rattle.std.proofs.Common.{subst}
use Rattle.ent_semantics.specs.Pool.{IsSafe}
use Rattle.ent_match.proofs.pool.Pool.members.Goals as goal

pub returns-clause-safe : goal.returns-clause-safe
returns-clause-safe c = subst IsSafe c.self.view_is c.self.invariant.1
