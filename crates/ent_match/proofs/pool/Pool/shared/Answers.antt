use Rattle.std.proofs.Common.{◌∙◌, List, sym, subst}
use Rattle.ent_semantics.specs.Pool.{IsSafe, Posted}
use Rattle.ent_match.specs.declared.offers.Offer.{Offer}
use Rattle.ent_match.specs.Fault.{IsByNumber}
use Rattle.ent_match.specs.Offers.{AreOffers}
use Rattle.ent_match.proofs.pool.Pool.shared.Goals as goal

pub invariant_of-result : goal.invariant_of-result
invariant_of-result c =
    let pool = c.self.inside.members.items in
    let offers = c.in_ok-offers.offers.items in
    let own = c.self.invariant in
    let same = c.in_ok-members.ensures ∙ c.as_slice.ensures.value in
    let same_offers = c.in_ok-offers.ensures.items ∙ c.as_slice-2.ensures.value in
    subst (λ (xs : List Posted). IsByNumber xs × IsSafe xs × AreOffers xs offers) (sym same)
    (own.0, own.1, subst (λ (xs : List Offer). AreOffers pool xs) (sym same_offers) own.2)
