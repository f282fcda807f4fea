use Rattle.ent_headline.proofs.Offers.{distinct_closed}
use Rattle.ent_headline.proofs.offer_law.resolved_heads_are_distinct.Goals as goal

pub returns : goal.returns
returns c = distinct_closed
