-- Where the statement of a transaction stands.
use Rattle.std.specs.Prelude.{◌≡◌, ◌≢◌, ◌<◌, ℕ, List, length, Contains, slice_index_or}
use Rattle.ent_semantics.specs.Pool.{Posted}

-- no statement of a pool is of a transaction
abbrev pub HasNoneOf : List Posted → ℕ → Type 0
HasNoneOf pool tx = (member : Posted) → Contains pool member → member.tx ≢ tx

-- where the statement of a transaction stands
abbrev pub IsPlaceOf : List Posted → ℕ → ℕ → Type 0
IsPlaceOf pool tx place = (place < length pool) × ((d : Posted) → (slice_index_or pool place d).tx ≡ tx)
