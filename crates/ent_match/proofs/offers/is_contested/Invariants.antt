use Rattle.std.proofs.Common.{ℕ, ◌<◌, ◌≡◌, get_or, true}
use Rattle.ent_match.specs.declared.offers.Offer.{Offer}
use Rattle.ent_match.specs.Offers.{HasRival, is_of}
use Rattle.ent_match.proofs.offers.is_contested.Given as goal

-- none of the offers so far is of the transaction and has a rival
abbrev pub invariant-loop-offer : goal.invariant-loop-offer
invariant-loop-offer l =
    (k : ℕ) (d : Offer) → k < l.offer-index → is_of l.tx (get_or l.offers k d) ≡ true
    → HasRival l.offers (get_or l.offers k d) → ⊥
