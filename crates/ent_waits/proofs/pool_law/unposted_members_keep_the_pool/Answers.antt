use Rattle.ent_lists.specs.Elements.{in_contains}
use Rattle.ent_waits.proofs.Pooled.{left_unposted, replaced_unposted}
use Rattle.ent_waits.proofs.pool_law.unposted_members_keep_the_pool.Goals as goal

pub returns-clause-replaced : goal.returns-clause-replaced
returns-clause-replaced c = λ s new off idle.
    replaced_unposted s new off (λ m at. idle m (in_contains s.active m at))

pub returns-clause-left : goal.returns-clause-left
returns-clause-left c = λ s tx idle. left_unposted s tx (λ m at. idle m (in_contains s.active m at))
