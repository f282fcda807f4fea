use Rattle.std.proofs.Common.{◌∙◌, ℕ, List, ap, filter, subst, sym}
use Rattle.ent_match.specs.declared.offers.Offer.{Offer}
use Rattle.ent_match.specs.Offers.{AreOffersBut, is_of_others}
use Rattle.ent_match.proofs.Offered.{left_offers}
use Rattle.ent_match.proofs.offers.add_offers.Goals as goal

pub returns-in-Err-clause-err : goal.returns-in-Err-clause-err
returns-in-Err-clause-err c =
    let pool = c.args.members.now in
    let one = c.args.new.now in
    let pushed = c.push_new.new.offers.items in
    subst (λ (xs : List Offer). AreOffersBut pool one.tx xs)
    (sym (c.forget.ensures ∙ ap (λ (tx : ℕ). filter (is_of_others tx) pushed) c.tx.ensures))
    (left_offers pool one c.args.offers.now.items pushed c.requires.kept c.push_new.ensures.grows)
