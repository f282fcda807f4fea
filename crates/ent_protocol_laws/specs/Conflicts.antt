-- Members whose uses are in conflict.
use Rattle.std.specs.Prelude.{◌≡◌, ◌≢◌, ◌⊎◌, true, Contains}
use Rattle.ent_protocol.specs.State.{State, Member, Use, members}
use Rattle.ent_protocol.specs.Uses.{uses_conflict}

-- a use of one is in conflict with a use of the other
pub record AreInConflict (one other : Member) : Type 0 where
  pub first : Use
  pub second : Use
  pub of_one : Contains one.uses first
  pub of_other : Contains other.uses second
  pub conflict : uses_conflict first second ≡ true

pub record ConflictsStandInGroups (s : State) : Type 0 where
  -- such members are of one group
  pub one_group : (one other : Member) → Contains (members s) one → Contains (members s) other
      → AreInConflict one other → one.group ≡ other.group
  -- and of two of them at least one is prepared
  pub prepared : (one other : Member) → Contains (members s) one → Contains (members s) other → one.tx ≢ other.tx
      → AreInConflict one other → Contains s.prepared one ⊎ Contains s.prepared other
