-- Where a member stands in a list.
use Rattle.std.specs.Prelude.{◌≡◌, ℕ, ◌<◌, List, length, map, Option, Some, filter, slice_index_or}
use Rattle.ent_protocol.specs.Begin.{replaced}
use Rattle.ent_protocol.specs.Member.{is_tx}
use Rattle.ent_protocol.specs.State.{Member, first_of}

-- the first member of a number stands at an index
pub record IsAt (members : List Member) (tx i : ℕ) : Type 0 where
  pub in_range : i < length members
  pub first : (d : Member) → first_of (filter (is_tx tx) members) ≡ Some (slice_index_or members i d)

-- the first member of a number, where there is one
abbrev pub found : List Member → ℕ → Option Member
found members tx = first_of (filter (is_tx tx) members)

-- a list of members in which one is changed, where it is there
abbrev pub Changes : (Member → Member) → ℕ → List Member → List Member → Type 0
Changes change tx old new = (member : Member) → found old tx ≡ Some member → new ≡ map (replaced (change member)) old
