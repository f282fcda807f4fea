-- What the entangled statements of a run offer and demand.
use Rattle.std.specs.Prelude.{◌≡◌, ℕ, ◌==◌, List, [], Option, Some, None}
use Rattle.std.specs.BTreeMap.{BTreeMap, get}
use Rattle.std.specs.List.{filter}
use Rattle.std.specs.Ordering.{nat_cmp}
use Rattle.ent_check.specs.Seats.{place_cmp}
use Rattle.ent_check.specs.declared.offer.StatementOffer.{StatementOffer}
use Rattle.ent_semantics.specs.Joint.{read_view_heads, read_view_posts}
use Rattle.ent_semantics.specs.Serial.{ReadView}

-- what an entangled statement offers and demands under its grounding
abbrev pub offer_of : ReadView → StatementOffer
offer_of read_view = record {
  tx = read_view.tx;
  place = read_view.place;
  heads = read_view_heads read_view;
  posts = read_view_posts read_view;
}

-- the number of the joint answer of a seat, 0 where there is none
abbrev pub joint_of : Option (ℕ × ℕ) → ℕ
joint_of (Some seat) = seat.0
joint_of None = 0

-- the number of the joint answer that the statement of an offer is a member of
abbrev pub joint_in : BTreeMap (ℕ × ℕ) (ℕ × ℕ) → StatementOffer → ℕ
joint_in seats offer = joint_of (get place_cmp seats (offer.tx, offer.place))

-- those of some offers that are of the joint answer of a number
abbrev pub offers_of : (StatementOffer → ℕ) → ℕ → List StatementOffer → List StatementOffer
offers_of own number offers = filter (λ offer. own offer == number) offers

-- the offers that stand under a number
abbrev pub offers_there : Option (List StatementOffer) → List StatementOffer
offers_there (Some offers) = offers
offers_there None = []

-- under each number stand the offers of its joint answer, in order
abbrev pub AreJoined : (StatementOffer → ℕ) → List StatementOffer → BTreeMap ℕ (List StatementOffer) → Type 0
AreJoined own offers joined =
    (number : ℕ) → offers_there (get nat_cmp joined number) ≡ offers_of own number offers
