-- The members of the present run.
use Rattle.std.specs.Prelude.{◌+◌, ◌≤◌, List, length, map, nat_eq}
use Rattle.std.specs.List.{IsDistinct}
use Rattle.ent_group.specs.declared.members.TheConstants.{MOST_MEMBERS}
use Rattle.ent_protocol.specs.State.{State, Member}
use Rattle.ent_members.specs.Order.{IsAscending, tx_of}

pub record Run : Type 0 where
  -- in the order in which they prepared
  pub prepared : List Member
  -- the others
  pub active : List Member

-- a state with these members
abbrev pub with_run : Run → State → State
with_run run s = record s { prepared = run.prepared; active = run.active }

-- as many as a run may have; those that aren't prepared stand by number, and one of each
pub record IsRun (prepared active : List Member) : Type 0 where
  pub bound : length prepared + length active ≤ MOST_MEMBERS
  pub ascending : IsAscending (map tx_of active)
  pub distinct : IsDistinct nat_eq (map tx_of active)
