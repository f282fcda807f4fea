-- Who offers what a statement demands.
use Rattle.std.specs.Prelude.{◌≡◌, ◌<◌, ℕ, List, length, slice_index_or}
use Rattle.ent_semantics.specs.Pool.{Posted}
use Rattle.ent_match.specs.Fault.{HasNoOwner, IsOwner}
use Rattle.ent_match.specs.declared.demand.Demand.{Demand}
use Rattle.ent_match.specs.declared.demand.Demand.TheVariants.{Met, Unmet}

-- each post before this one has an owner of a head
abbrev pub AreMetBefore : List Posted → Posted → ℕ → Type 0
AreMetBefore pool asker last = (index : ℕ) → index < last → (tx : ℕ) × IsOwner pool asker index tx

-- of each of so many posts the transaction at its place has a head for it
abbrev pub AreOwners : List Posted → Posted → List ℕ → Type 0
AreOwners pool asker owners =
    (index : ℕ) → index < length owners → IsOwner pool asker index (slice_index_or owners index 0)

-- the first post that nobody offers, or who offers each one
abbrev pub IsDemand : List Posted → Posted → Demand → Type 0
IsDemand pool asker (Unmet index) =
    (index < length asker.statement.posts) × HasNoOwner pool asker index × AreMetBefore pool asker index
IsDemand pool asker (Met owners) =
    (length owners ≡ length asker.statement.posts) × AreOwners pool asker owners
