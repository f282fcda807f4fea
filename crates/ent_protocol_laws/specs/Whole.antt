-- A group commits whole.
use Rattle.std.specs.Prelude.{◌≡◌, ℕ, List, [], ◌∷◌, ◌++◌, map, Contains}
use Rattle.std.specs.List.{filter}
use Rattle.ent_protocol.specs.Commit.{entry_of}
use Rattle.ent_protocol.specs.Member.{is_of}
use Rattle.ent_protocol.specs.State.{State, Member}

-- the prepared members of a member's group, in order of preparing, and this one
abbrev pub prepared_with : State → Member → List Member
prepared_with s member = filter (is_of member.group) s.prepared ++ member ∷ []

-- a member prepares, all others of its group being prepared, and they get their entries in that order
pub record CommitsWhole (s new : State) : Type 0 where
  pub member : Member
  pub active : Contains s.active member
  pub others_prepared : (other : Member) → Contains s.active other → other.group ≡ member.group
      → other.tx ≡ member.tx
  pub entries : new.journal ≡ s.journal ++ map entry_of (prepared_with s member)
