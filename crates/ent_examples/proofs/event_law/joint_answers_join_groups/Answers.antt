use Rattle.ent_protocol.specs.PoolEvents.{joining}
use Rattle.ent_examples.proofs.Joined.{joined}
use Rattle.ent_examples.proofs.OneJoined.{one_joined}
use Rattle.ent_examples.proofs.event_law.joint_answers_join_groups.Goals as goal

pub returns-clause-joined : goal.returns-clause-joined
returns-clause-joined c s asked groundings = joined s asked groundings

pub returns-clause-only : goal.returns-clause-only
returns-clause-only c s asked groundings new is =
    one_joined s asked groundings (joining s asked groundings) new (joined s asked groundings) is
