-- What comes of runs that a caller starts and ends.
use Rattle.std.specs.Prelude.{◌≡◌}
use Rattle.ent_desk.specs.Advance.{EndsRun, StartsRun, Told}
use Rattle.ent_desk.specs.Passed.{resolved_forms}
use Rattle.ent_desk.specs.Seen.{DeskState}
use Rattle.ent_desk.specs.declared.advance.Advance.{Advance}
use Rattle.ent_desk.specs.declared.advance.Advance.TheVariants as advances
use Rattle.ent_protocol.specs.Event.{Recall, Recalled}
use Rattle.ent_protocol.specs.State.{State}
use Rattle.ent_protocol.specs.Step.{Step}
use Rattle.ent_serve.specs.Look.{IsBehindLock}
use Rattle.ent_serve.specs.declared.manager.Headway.{Headway}
use Rattle.ent_serve.specs.declared.manager.Headway.TheVariants as headways

-- how far a call came whose desk told this
abbrev pub headway_in : {J : Type 0} → Advance J → Headway
headway_in (advances.Lent job) = headways.Moved
headway_in advances.Moved = headways.Moved
headway_in advances.Idle = headways.Idle
headway_in advances.Done = headways.Done

-- a desk behind the lock started a run so, or said so why it didn't
pub record StartsBehindLock (headway : Headway) : Type 0 where
  pub before : DeskState
  pub after : DeskState
  pub told : Told
  pub behind : IsBehindLock before.core
  pub starts : StartsRun before told after
  pub is : headway ≡ headway_in told

-- a desk behind the lock ended its run so, or said so why it didn't
pub record EndsBehindLock (headway : Headway) : Type 0 where
  pub before : DeskState
  pub after : DeskState
  pub told : Told
  pub behind : IsBehindLock before.core
  pub ends : EndsRun before told after
  pub is : headway ≡ headway_in told

-- a core behind the lock lends no job any more
pub record RecallsBehindLock : Type 0 where
  pub before : State
  pub after : State
  pub behind : IsBehindLock before
  pub step : Step resolved_forms before Recall Recalled after
