use Rattle.std.proofs.Common.{◌≡◌, get_or, sym, ap, subst, ◌∙◌}
use Rattle.std.specs.List.{insert, remove}
use Rattle.ent_semantics.specs.Pool.{IsSafe, Posted}
use Rattle.ent_match.specs.Fault.{IsByNumber, IsSafeBut}
use Rattle.ent_match.specs.Offers.{AreOffers, AreOffersBut}
use Rattle.ent_match.specs.Posting.{IsPlaceFor, IsPostedTo, IsWhyIn}
use Rattle.ent_match.proofs.Offered.{but_new, of_old}
use Rattle.ent_match.proofs.Placed.{by_number-insert, adds-insert, safe_but, remove-insert, at-insert}
use Rattle.ent_match.proofs.Refused.{why_with}
use Rattle.ent_match.proofs.pool.post_to.Goals as goal

pub returns-in-Err-clause-exact : goal.returns-in-Err-clause-exact
returns-in-Err-clause-exact c =
    subst (λ xs. AreOffers xs c.args.offers.now.items) (sym c.in-Err.ensures.items) c.requires.exact

pub add_offers-requires-clause-by_number : goal.add_offers-requires-clause-by_number
add_offers-requires-clause-by_number c =
    let old = c.args.members.now.items in
    let at = c.place_for-at.result in
    let m = c.args.member in
    let place = subst (λ xs. IsPlaceFor xs m at) c.as_slice.ensures.value c.place_for-at.ensures in
    let full = c.as_slice-2.ensures.value ∙ c.in_default.ensures.items in
    subst IsByNumber (sym full) (by_number-insert old at m c.requires.by_number c.requires.none place)

pub add_offers-requires-clause-safe : goal.add_offers-requires-clause-safe
add_offers-requires-clause-safe c =
    let old = c.args.members.now.items in
    let at = c.place_for-at.result in
    let m = c.args.member in
    let place = subst (λ xs. IsPlaceFor xs m at) c.as_slice.ensures.value c.place_for-at.ensures in
    let full = c.as_slice-2.ensures.value ∙ c.in_default.ensures.items in
    let is_m : c.index.result.now ≡ m =
    c.index.ensures ∙ (ap (λ xs. get_or xs at c.index.result.now) c.in_default.ensures.items
    ∙ at-insert old at m c.index.result.now place.within) in
    subst (λ xs. IsSafeBut xs c.index.result.now) (sym full)
    (subst (IsSafeBut (insert old at m)) (sym is_m)
    (safe_but old (insert old at m) m (adds-insert old at m place.within) c.requires.safe))

pub add_offers-requires-clause-kept : goal.add_offers-requires-clause-kept
add_offers-requires-clause-kept c =
    let old = c.args.members.now.items in
    let at = c.place_for-at.result in
    let m = c.args.member in
    let place = subst (λ xs. IsPlaceFor xs m at) c.as_slice.ensures.value c.place_for-at.ensures in
    let full = c.as_slice-2.ensures.value ∙ c.in_default.ensures.items in
    let is_m : c.index.result.now ≡ m =
    c.index.ensures ∙ (ap (λ xs. get_or xs at c.index.result.now) c.in_default.ensures.items
    ∙ at-insert old at m c.index.result.now place.within) in
    let offers = c.args.offers.now.items in
    subst (λ xs. AreOffersBut xs c.index.result.now.tx offers) (sym full)
    (subst (λ (z : Posted). AreOffersBut (insert old at m) z.tx offers) (sym is_m)
    (but_new old (insert old at m) m (adds-insert old at m place.within) c.requires.none offers c.requires.exact))

pub returns-in-Ok-clause-posted : goal.returns-in-Ok-clause-posted
returns-in-Ok-clause-posted c =
    let old = c.args.members.now.items in
    let at = c.place_for-at.result in
    let m = c.args.member in
    let place = subst (λ xs. IsPlaceFor xs m at) c.as_slice.ensures.value c.place_for-at.ensures in
    let full = c.as_slice-2.ensures.value ∙ c.in_default.ensures.items in
    subst (λ xs. IsPostedTo old xs m) (sym c.in_default.ensures.items)
    (record {
      adds = adds-insert old at m place.within;
      by_number = by_number-insert old at m c.requires.by_number c.requires.none place;
      safe = subst IsSafe full c.in-Ok.ensures.safe;
    })

pub returns-in-Ok-clause-exact : goal.returns-in-Ok-clause-exact
returns-in-Ok-clause-exact c =
    subst (λ xs. AreOffers xs c.add_offers.new.offers.items) c.as_slice-2.ensures.value c.in-Ok.ensures.exact

pub returns-in-Err-add_offers-clause-err : goal.returns-in-Err-add_offers-clause-err
returns-in-Err-add_offers-clause-err c =
    let old = c.args.members.now.items in
    let at = c.place_for-at.result in
    let m = c.args.member in
    let place = subst (λ xs. IsPlaceFor xs m at) c.as_slice.ensures.value c.place_for-at.ensures in
    c.remove-member.ensures.items
    ∙ (ap (λ xs. remove xs at) c.in_default.ensures.items ∙ remove-insert old at m place.within)

pub returns-in-Err-add_offers-clause-exact : goal.returns-in-Err-add_offers-clause-exact
returns-in-Err-add_offers-clause-exact c =
    let old = c.args.members.now.items in
    let at = c.place_for-at.result in
    let m = c.args.member in
    let place = subst (λ xs. IsPlaceFor xs m at) c.as_slice.ensures.value c.place_for-at.ensures in
    let full = c.as_slice-2.ensures.value ∙ c.in_default.ensures.items in
    let is_m : c.index.result.now ≡ m =
    c.index.ensures ∙ (ap (λ xs. get_or xs at c.index.result.now) c.in_default.ensures.items
    ∙ at-insert old at m c.index.result.now place.within) in
    let offers = c.add_offers.new.offers.items in
    let left : AreOffersBut (insert old at m) m.tx offers =
    subst (λ (z : Posted). AreOffersBut (insert old at m) z.tx offers) is_m
    (subst (λ xs. AreOffersBut xs c.index.result.now.tx offers) full c.in-Err-add_offers.ensures.err) in
    subst (λ xs. AreOffers xs offers)
    (sym (c.remove-member.ensures.items
    ∙ (ap (λ xs. remove xs at) c.in_default.ensures.items ∙ remove-insert old at m place.within)))
    (of_old old (insert old at m) m (adds-insert old at m place.within) c.requires.none offers left)

pub returns-in-Err-add_offers-clause-why : goal.returns-in-Err-add_offers-clause-why
returns-in-Err-add_offers-clause-why c =
    let old = c.args.members.now.items in
    let at = c.place_for-at.result in
    let m = c.args.member in
    let place = subst (λ xs. IsPlaceFor xs m at) c.as_slice.ensures.value c.place_for-at.ensures in
    let full = c.as_slice-2.ensures.value ∙ c.in_default.ensures.items in
    let new = insert old at m in
    why_with old new m c.in-Err-add_offers.fault (adds-insert old at m place.within)
    (by_number-insert old at m c.requires.by_number c.requires.none place)
    (subst (λ xs. IsWhyIn xs c.in-Err-add_offers.fault) full c.in-Err-add_offers.ensures.why)
