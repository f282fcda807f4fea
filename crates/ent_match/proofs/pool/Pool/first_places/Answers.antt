use Rattle.std.proofs.Common.{◌∙◌, List, sym, subst}
use Rattle.ent_semantics.specs.Pool.{IsSafe, Posted}
use Rattle.ent_match.specs.declared.offers.Offer.{Offer}
use Rattle.ent_match.specs.Offers.{AreOffers}
use Rattle.ent_match.proofs.pool.Pool.first_places.Goals as goal

pub first_places_of-requires-clause-safe : goal.first_places_of-requires-clause-safe
first_places_of-requires-clause-safe c =
    subst IsSafe (sym c.members-members.ensures.members) c.members-members.ensures.safe

pub first_places_of-requires-clause-exact : goal.first_places_of-requires-clause-exact
first_places_of-requires-clause-exact c =
    subst (λ (xs : List Offer). AreOffers c.members-members.result.now xs) (sym c.as_slice.ensures.value)
    (subst (λ (xs : List Posted). AreOffers xs c.self.inside.offers.items)
    (c.self.view_is ∙ sym c.members-members.ensures.members) c.self.invariant.2)
