use Rattle.ent_waits.proofs.Pooled.{joined_without}
use Rattle.ent_waits.proofs.pool_law.answered_statements_leave.Goals as goal

pub returns : goal.returns
returns c = joined_without
