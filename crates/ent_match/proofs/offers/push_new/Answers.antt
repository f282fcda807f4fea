use Rattle.std.proofs.Common.{◌∙◌, List, subst, sym, true≢false}
use Rattle.ent_match.specs.declared.offers.Offer.{Offer}
use Rattle.ent_match.specs.Offers.{AreOffers, IsContested}
use Rattle.ent_match.proofs.Offered.{all_offers, safe_uncontested}
use Rattle.ent_match.proofs.offers.push_new.Goals as goal

pub fault_if-requires-clause-uncontested : goal.fault_if-requires-clause-uncontested
fault_if-requires-clause-uncontested c = λ uncontested.
    let pool = c.args.members.now in
    let one = c.args.new.now in
    let all = all_offers pool one c.requires.by_number c.requires.is_new c.args.offers.now.items
    c.push_between.new.offers.items c.requires.kept c.push_between.ensures.grows c.in-Ok.ensures.ok in
    let slice = c.as_slice.result.now in
    safe_uncontested pool one c.requires.by_number c.requires.is_new slice
    (subst (λ (xs : List Offer). AreOffers pool xs) (sym c.as_slice.ensures.value) all) c.requires.safe
    (λ is. true≢false (sym (c.is_contested-contested.ensures.1 (subst (IsContested slice) (sym c.tx.ensures) is))
    ∙ uncontested))

pub returns-in-None-clause-exact : goal.returns-in-None-clause-exact
returns-in-None-clause-exact c =
    all_offers c.args.members.now c.args.new.now c.requires.by_number c.requires.is_new c.args.offers.now.items
    c.push_between.new.offers.items c.requires.kept c.push_between.ensures.grows c.in-Ok.ensures.ok
