use Rattle.std.proofs.Common.{filter, sym, subst, List}
use Rattle.ent_semantics.specs.Pool.{Posted, IsSafe}
use Rattle.ent_match.specs.declared.offers.Offer.{Offer}
use Rattle.ent_match.specs.Fault.{IsByNumber}
use Rattle.ent_match.specs.Offers.{AreOffers}
use Rattle.ent_match.specs.Posting.{is_of_other}
use Rattle.ent_match.proofs.Offered.{left_over}
use Rattle.ent_match.proofs.Placed.{kept_state}
use Rattle.ent_match.proofs.pool.Pool.withdraw.Goals as goal

pub invariant_of-self : goal.invariant_of-self
invariant_of-self c =
    let members = c.self.inside.members.items in
    let offers = c.self.inside.offers.items in
    let tx = c.args.tx in
    let state = kept_state (is_of_other tx) members (c.self.invariant.0, c.self.invariant.1) in
    let left = left_over members tx offers c.self.invariant.2 in
    subst (λ (xs : List Posted). IsByNumber xs × IsSafe xs × AreOffers xs c.forget.new.offers.items)
    (sym c.withdraw_from.ensures) (
      state.0,
      state.1,
      subst (λ (xs : List Offer). AreOffers (filter (is_of_other tx) members) xs) (sym c.forget.ensures) left,
    )
