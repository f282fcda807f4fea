-- Posts that unify with heads of two statements of a pool by number.
use Rattle.std.specs.Prelude.{◌≡◌, ◌≢◌, ◌<◌, ◌≤◌, ◌⊎◌, ℕ, List, AllPairs, Contains, Option, Some, None}
use Rattle.ent_semantics.specs.Pool.{Posted, CanMeet, Unsafe}

-- the statements by number of their transactions, each once
abbrev pub IsByNumber : List Posted → Type 0
IsByNumber pool = AllPairs (λ (one other : Posted). one.tx < other.tx) pool

-- a post unifies with heads of one statement at most
abbrev pub MeetsOne : List Posted → Posted → ℕ → Type 0
MeetsOne pool asker index =
    (first second : Posted) → Contains pool first → Contains pool second → CanMeet asker index first
    → CanMeet asker index second → first.tx ≡ second.tx

-- a statement of a transaction has a head for a post
pub record IsOwner (pool : List Posted) (asker : Posted) (index tx : ℕ) : Type 0 where
  pub owner : Posted
  pub offers : Contains pool owner
  pub owner_is : owner.tx ≡ tx
  pub meets : CanMeet asker index owner

-- no statement of a pool has a head for a post
abbrev pub HasNoOwner : List Posted → Posted → ℕ → Type 0
HasNoOwner pool asker index = (owner : Posted) → Contains pool owner → CanMeet asker index owner → ⊥

-- the two least transactions that have a head for a post
pub record AreTwoLeast (pool : List Posted) (asker : Posted) (index first second : ℕ) : Type 0 where
  pub below : first < second
  pub first_owns : IsOwner pool asker index first
  pub second_owns : IsOwner pool asker index second
  pub least : (owner : Posted) → Contains pool owner → CanMeet asker index owner
      → (owner.tx ≡ first) ⊎ (second ≤ owner.tx)

-- the first post of a statement that unifies with heads of two
pub record IsFaultOf (pool : List Posted) (asker : Posted) (fault : Unsafe) : Type 0 where
  pub asker_is : fault.asker ≡ asker.tx
  pub two : AreTwoLeast pool asker fault.index fault.first fault.second
  pub earlier : (index : ℕ) → index < fault.index → MeetsOne pool asker index

-- a pool that is safe without one of its statements
abbrev pub IsSafeBut : List Posted → Posted → Type 0
IsSafeBut pool new =
    (asker first second : Posted) (index : ℕ) → Contains pool asker → Contains pool first → Contains pool second
    → asker.tx ≢ new.tx → first.tx ≢ new.tx → second.tx ≢ new.tx
    → CanMeet asker index first → CanMeet asker index second → first.tx ≡ second.tx

-- of the statements so far none has a head for a post, or the one of a transaction
abbrev pub AreSoFar : List Posted → Posted → ℕ → Option ℕ → Type 0
AreSoFar front asker index None = HasNoOwner front asker index
AreSoFar front asker index (Some tx) =
    IsOwner front asker index tx
    × ((owner : Posted) → Contains front owner → CanMeet asker index owner → owner.tx ≡ tx)
