-- The remainder of a pool, and its components.
use Rattle.std.specs.Prelude.{◌≡◌, ◌<◌, ◌⊎◌, ◌↔◌, ℕ, zero, suc, Bool, true, List, AllPairs, Contains, Some, slice_get}
use Rattle.ent_value.specs.declared.value.Value.{Value}
use Rattle.ent_semantics.specs.declared.entangled.Atom.{Atom}
use Rattle.ent_semantics.specs.Pool.{Posted, CanMeet}

-- transactions, by whether they are in it
abbrev pub SetOfTransactions : Type 0
SetOfTransactions = ℕ → Bool

-- a statement of the pool whose transaction is in a set
abbrev pub IsIn : List Posted → SetOfTransactions → Posted → Type 0
IsIn pool among member = Contains pool member × (among member.tx ≡ true)

-- each post of a member of the set unifies with a head of a member of the set
abbrev pub IsSupported : List Posted → SetOfTransactions → Type 0
IsSupported pool among =
    (asker : Posted) (index : ℕ) (post : Atom Value) → IsIn pool among asker
    → slice_get asker.statement.posts index ≡ Some post
    → (owner : Posted) × IsIn pool among owner × CanMeet asker index owner

-- The remainder: the greatest set of posted statements in which each post unifies with a head of the set. A statement
-- is in it where it is in any such set.
pub record IsInRemainder (pool : List Posted) (member : Posted) : Type 0 where
  pub among : SetOfTransactions
  pub supported : IsSupported pool among
  pub is_in : IsIn pool among member

-- one has a head for a post of the other
abbrev pub AreJoined : Posted → Posted → Type 0
AreJoined first second = (index : ℕ) × (CanMeet first index second ⊎ CanMeet second index first)

-- from one to the other in a number of steps of the remainder
abbrev pub AreLinkedIn : ℕ → List Posted → Posted → Posted → Type 0
AreLinkedIn zero pool first last = first ≡ last
AreLinkedIn (suc n) pool first last =
    (next : Posted) × AreJoined first next × IsInRemainder pool next × AreLinkedIn n pool next last

-- the least equivalence on the remainder that joins the owner of a post and the owner of a head for it
abbrev pub AreLinked : List Posted → Posted → Posted → Type 0
AreLinked pool first last = (n : ℕ) × AreLinkedIn n pool first last

-- a class of that equivalence, by number of the transactions
pub record IsComponent (pool members : List Posted) : Type 0 where
  pub first : Posted
  pub in_remainder : IsInRemainder pool first
  pub class : (member : Posted) → Contains members member
      ↔ (IsInRemainder pool member × AreLinked pool first member)
  pub ascending : AllPairs (λ (one other : Posted). one.tx < other.tx) members
