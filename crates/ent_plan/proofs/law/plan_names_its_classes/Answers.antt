use Rattle.ent_plan.proofs.Order.{within}
use Rattle.ent_plan.proofs.law.plan_names_its_classes.Goals as goal

pub returns : goal.returns
returns c = within
