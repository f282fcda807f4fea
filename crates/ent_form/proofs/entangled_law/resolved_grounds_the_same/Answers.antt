use Rattle.ent_form.proofs.Grounding.{grounding_same}
use Rattle.ent_form.proofs.entangled_law.resolved_grounds_the_same.Goals as goal

pub returns : goal.returns
returns c = λ creates tables environment bound after tree form valuation wide e.
    grounding_same creates tables wide environment bound after tree form e valuation
