use Rattle.ent_headline.proofs.Ranged.{ranged_closed}
use Rattle.ent_headline.proofs.offer_law.resolved_variables_are_ranged.Goals as goal

pub returns : goal.returns
returns c = ranged_closed
