use Rattle.ent_protocol.specs.Rollback.{is_among}
use Rattle.ent_waits.proofs.Pooled.{pool_without}
use Rattle.ent_waits.proofs.pool_law.leaving_members_withdraw.Goals as goal

pub returns : goal.returns
returns c = λ gone cause s. pool_without s (is_among gone)
