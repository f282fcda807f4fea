use Rattle.std.proofs.Common.{ℕ, ◌<◌, get_or}
use Rattle.ent_match.specs.declared.offers.Offer.{Offer}
use Rattle.ent_match.specs.Offers.{AreRivals}
use Rattle.ent_match.proofs.offers.has_rival.Given as goal

-- none of the offers so far is a rival's
abbrev pub invariant-loop-other : goal.invariant-loop-other
invariant-loop-other l = (k : ℕ) (d : Offer) → k < l.other-index → AreRivals (get_or l.offers k d) l.offer → ⊥
