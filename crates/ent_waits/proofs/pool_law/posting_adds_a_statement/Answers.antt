use Rattle.ent_waits.proofs.Pooled.{posted_adds}
use Rattle.ent_waits.proofs.pool_law.posting_adds_a_statement.Goals as goal

pub returns : goal.returns
returns c = posted_adds
