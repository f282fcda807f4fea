use Rattle.ent_semantics.proofs.Linked.{one_class}
use Rattle.ent_semantics.proofs.pool_law.components_are_classes.Goals as goal

-- src/law.rt:26:1
pub returns : goal.returns
returns c = one_class
