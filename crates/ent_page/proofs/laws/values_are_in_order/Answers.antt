use Rattle.ent_page.specs.Order.{value_order}
use Rattle.ent_page.proofs.laws.values_are_in_order.Goals as goal

pub returns : goal.returns
returns c = value_order
