use Rattle.ent_waits.proofs.Pooled.{submitted_more}
use Rattle.ent_waits.proofs.pool_law.submitted_scripts_keep_the_pool.Goals as goal

pub returns : goal.returns
returns c = submitted_more
