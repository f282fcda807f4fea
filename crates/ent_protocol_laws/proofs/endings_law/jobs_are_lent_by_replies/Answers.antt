use Rattle.std.proofs.Common.{ap}
use Rattle.ent_protocol.specs.State.{State}
use Rattle.ent_protocol_laws.proofs.Taken.{lent_behind}
use Rattle.ent_protocol_laws.proofs.endings_law.jobs_are_lent_by_replies.Goals as goal

pub returns-clause-lent : goal.returns-clause-lent
returns-clause-lent g c = lent_behind

pub returns-clause-recalled : goal.returns-clause-recalled
returns-clause-recalled g c forms s reply new step = ap (λ (x : State). x.lent) step.1
