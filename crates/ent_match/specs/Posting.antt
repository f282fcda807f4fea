-- Posting a statement.
use Rattle.std.specs.Prelude.{◌≡◌, ◌≢◌, ◌==◌, ◌<◌, ◌≤◌, ◌⊎◌, ◌↔◌, ℕ, Bool, not, List, ◌∷◌, Contains, length}
use Rattle.std.specs.Prelude.{slice_index_or}
use Rattle.ent_semantics.specs.Pool.{Posted, IsSafe, IsFirstUnsafe}
use Rattle.ent_match.specs.Fault.{IsByNumber}
use Rattle.ent_match.specs.declared.fault.PostFault.{PostFault}
use Rattle.ent_match.specs.declared.fault.PostFault.TheVariants as faults

-- no statement of a transaction is in the pool
abbrev pub HasNone : List Posted → Posted → Type 0
HasNone pool member = (other : Posted) → Contains pool other → other.tx ≢ member.tx

-- the pool has a further statement, and no other
abbrev pub Adds : List Posted → List Posted → Posted → Type 0
Adds old new member = (other : Posted) → Contains new other ↔ (Contains old other ⊎ (member ≡ other))

-- the pool with the statement, which is safe
pub record IsPostedTo (old new : List Posted) (member : Posted) : Type 0 where
  pub adds : Adds old new member
  pub by_number : IsByNumber new
  pub safe : IsSafe new

-- why a new statement is no part of a pool: memory ran out, or the pool isn't safe, the first post and heads being told
abbrev pub IsWhyIn : List Posted → PostFault → Type 0
IsWhyIn pool faults.Memory = Unit {0}
IsWhyIn pool (faults.Unsafe fault) = IsFirstUnsafe pool fault

-- why a statement isn't posted: memory ran out, or the pool with it isn't safe, the first post and heads being told
abbrev pub IsWhyWith : List Posted → Posted → PostFault → Type 0
IsWhyWith old member faults.Memory = Unit {0}
IsWhyWith old member (faults.Unsafe fault) =
    (IsSafe (member ∷ old) → ⊥) × IsFirstUnsafe (member ∷ old) fault

-- a statement's place by number: those before it are of no greater transaction, those from it on of greater ones
pub record IsPlaceFor (pool : List Posted) (member : Posted) (at : ℕ) : Type 0 where
  pub within : at ≤ length pool
  pub before : (k : ℕ) (d : Posted) → k < at → (slice_index_or pool k d).tx ≤ member.tx
  pub here : (d : Posted) → at < length pool → member.tx < (slice_index_or pool at d).tx

-- a statement of another transaction
abbrev pub is_of_other : ℕ → Posted → Bool
is_of_other tx member = not (member.tx == tx)
