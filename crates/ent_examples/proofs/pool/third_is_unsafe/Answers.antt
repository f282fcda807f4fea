use Rattle.ent_examples.proofs.Pools.{third_unsafe, third_not_safe}
use Rattle.ent_examples.proofs.pool.third_is_unsafe.Goals as goal

pub returns-clause-pair : goal.returns-clause-pair
returns-clause-pair c = third_unsafe

pub returns-clause-not_safe : goal.returns-clause-not_safe
returns-clause-not_safe c = third_not_safe
