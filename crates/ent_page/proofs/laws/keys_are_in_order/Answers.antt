use Rattle.ent_page.specs.Order.{key_order}
use Rattle.ent_page.specs.ReadBack.{row_back}
use Rattle.ent_page.proofs.laws.keys_are_in_order.Goals as goal

pub returns-clause-order : goal.returns-clause-order
returns-clause-order c = key_order

pub returns-clause-back : goal.returns-clause-back
returns-clause-back c = row_back
