use Rattle.std.proofs.Common.{◌∙◌, get_or, length, subst}
use Rattle.std.proofs.lemmas.List.Elements.{Contains-get_or}
use Rattle.ent_match.specs.declared.offers.Offer.{Offer}
use Rattle.ent_match.specs.Offers.{NoneIsFor}
use Rattle.ent_match.proofs.Offered.{no_owner, owner_at}
use Rattle.ent_match.proofs.remainder.owner_place.Goals as goal

pub returns-in_default : goal.returns-in_default
returns-in_default c =
    let offers = c.args.offers.now in
    no_owner c.args.members.now offers c.args.asker.now c.args.index c.requires.exact c.requires.asks
    (subst (λ tx. NoneIsFor offers tx c.args.index 0 (length offers)) c.tx.ensures c.in_default.ensures)

pub returns : goal.returns
returns c =
    let offers = c.args.offers.now in
    let none : Offer = record { asker = 0; index = 0; owner = 0 } in
    let place = c.in-Some.place in
    let at = c.in-Some.ensures in
    let is = at.1 none in
    owner_at c.args.members.now offers c.args.asker.now c.args.index c.requires.by_number c.requires.exact
    c.requires.asks (get_or offers place none) (Contains-get_or offers place none at.0) (is.0 ∙ c.tx.ensures) is.1
    c.place_by_number.result c.place_by_number.ensures
