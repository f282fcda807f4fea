-- Which statements of a pool have heads for which posts.
use Rattle.std.specs.Prelude.{◌≡◌, ◌≢◌, ◌<◌, ◌≤◌, ◌⊎◌, ◌↔◌, ◌==◌, ◌||◌, ℕ, Bool, true, not, List, length, Contains}
use Rattle.std.specs.Prelude.{slice_index_or}
use Rattle.ent_semantics.specs.Pool.{Posted, CanMeet, HasHeadFor, IsSafe}
use Rattle.ent_match.specs.Fault.{IsByNumber}
use Rattle.ent_match.specs.declared.offers.Offer.{Offer}

-- a statement of the pool has a head for the post of an offer, as it says
abbrev pub IsOffered : List Posted → Offer → Type 0
IsOffered pool offer = HasHeadFor pool offer.asker offer.index offer.owner

-- exactly the offers of a pool are listed
abbrev pub AreOffers : List Posted → List Offer → Type 0
AreOffers pool offers = (offer : Offer) → Contains offers offer ↔ IsOffered pool offer

-- statements by number that are safe, and their offers
abbrev pub IsSafeWith : List Posted → List Offer → Type 0
IsSafeWith pool offers = IsByNumber pool × IsSafe pool × AreOffers pool offers

-- an offer by a transaction, or to it
abbrev pub is_of : ℕ → Offer → Bool
is_of tx offer = (offer.asker == tx) || (offer.owner == tx)

abbrev pub is_of_others : ℕ → Offer → Bool
is_of_others tx offer = not (is_of tx offer)

-- exactly the offers of a pool are listed that aren't of a transaction
abbrev pub AreOffersBut : List Posted → ℕ → List Offer → Type 0
AreOffersBut pool tx offers =
    (offer : Offer) → Contains offers offer ↔ (IsOffered pool offer × (is_of_others tx offer ≡ true))

-- a statement has a head for a post of another
abbrev pub IsMetBy : Posted → Posted → Offer → Type 0
IsMetBy asker owner offer = (offer.asker ≡ asker.tx) × (offer.owner ≡ owner.tx) × CanMeet asker offer.index owner

-- one of two statements has a head for a post of the other
abbrev pub IsOfPair : Posted → Posted → Offer → Type 0
IsOfPair one other offer = IsMetBy one other offer ⊎ IsMetBy other one offer

-- an offer between a statement and one of some
abbrev pub IsBetween : List Posted → Posted → Offer → Type 0
IsBetween pool new offer = (member : Posted) × Contains pool member × IsOfPair member new offer

-- further offers are listed, of some kind
pub record GrowBy (old new : List Offer) (IsNew : Offer → Type 0) : Type 0 where
  pub kept : (offer : Offer) → Contains old offer → Contains new offer
  pub sound : (offer : Offer) → Contains new offer → Contains old offer ⊎ IsNew offer

-- offers by two transactions for one post
abbrev pub AreRivals : Offer → Offer → Type 0
AreRivals one other = (one.asker ≡ other.asker) × (one.index ≡ other.index) × (one.owner ≢ other.owner)

-- an offer for the same post is listed
pub record HasRival (offers : List Offer) (offer : Offer) : Type 0 where
  pub other : Offer
  pub listed : Contains offers other
  pub rivals : AreRivals other offer

-- there are offers by two transactions for one post, and a transaction has a part in them
pub record IsContested (offers : List Offer) (tx : ℕ) : Type 0 where
  pub offer : Offer
  pub listed : Contains offers offer
  pub is_own : is_of tx offer ≡ true
  pub rival : HasRival offers offer

-- an offer is for a post of a transaction
abbrev pub IsFor : ℕ → ℕ → Offer → Type 0
IsFor asker index offer = (offer.asker ≡ asker) × (offer.index ≡ index)

-- an offer for a post stands at a place
abbrev pub IsForAt : List Offer → ℕ → ℕ → ℕ → Type 0
IsForAt offers asker index place =
    (place < length offers) × ((d : Offer) → IsFor asker index (slice_index_or offers place d))

-- no offer from one place on and before another is for a post
abbrev pub NoneIsFor : List Offer → ℕ → ℕ → ℕ → ℕ → Type 0
NoneIsFor offers asker index from end =
    (place : ℕ) (d : Offer) → from ≤ place → place < end → IsFor asker index (slice_index_or offers place d) → ⊥
