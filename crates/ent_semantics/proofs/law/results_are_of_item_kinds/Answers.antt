use Rattle.ent_semantics.proofs.ItemKinds.{item_kinds}
use Rattle.ent_semantics.proofs.law.results_are_of_item_kinds.Goals as goal

-- src/law.rt:66:1
pub returns : goal.returns
returns c = item_kinds
