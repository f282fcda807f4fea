use Rattle.ent_examples.proofs.Operations.{are_operations, operations_are}
use Rattle.ent_examples.proofs.event_law.oracles_answer_in_order.Goals as goal

pub returns : goal.returns
returns c asked oracle operations = (are_operations asked oracle operations, operations_are asked oracle operations)
