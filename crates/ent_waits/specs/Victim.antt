-- The group that is rolled back for a deadlock.
use Rattle.std.specs.Prelude.{◌≡◌, Some, slice_index}
use Rattle.ent_protocol.specs.Member.{active_member}
use Rattle.ent_protocol.specs.State.{State, Member}
use Rattle.ent_protocol.specs.Waits.{IsDeadlock}
use Rattle.ent_waits.specs.declared.victim.Victim.{Victim}

-- a deadlock, and the label of the group of its first member, which isn't prepared
pub record IsVictim (s : State) (broken : Victim) : Type 0 where
  pub deadlock : IsDeadlock s broken.cycle
  pub victim : Member
  pub is_victim : active_member s (slice_index broken.cycle 0) ≡ Some victim
  pub group : broken.group ≡ victim.group
