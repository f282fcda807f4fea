use Rattle.std.proofs.Common.{◌∙◌, sym}
use Rattle.ent_form.proofs.Grounded.{grounding_kinds}
use Rattle.ent_form.proofs.entangled_kinds_law.groundings_are_of_their_kinds.Goals as goal

pub returns : goal.returns
returns c = λ schemas bound after tree form environment tables valuation e kinded have held.
    grounding_kinds c.results_are_of_item_kinds.ensures schemas bound tree (form, after) environment tables valuation e
    kinded have (sym (c.closing_keeps_the_meaning.ensures.grounds environment tables form valuation) ∙ held)
