-- A core whose events are counted.
use Rattle.std.specs.Prelude.{◌≡◌, ℕ}
use Rattle.ent_value.specs.Ticks.{ticked}
use Rattle.ent_protocol.specs.Event.{Event, Reply}
use Rattle.ent_protocol.specs.Run.{Forms}
use Rattle.ent_protocol.specs.State.{State}
use Rattle.ent_protocol.specs.Step.{Step}

pub record Tally : Type 0 where
  pub core : State
  -- how many events were made of it, refusals too, up to the greatest number that a count holds
  pub ticks : ℕ

-- One event is made, and replied to so; it ticks once, whether or not it changes anything.
pub record MakesEvent {F : Type 0} (forms : Forms F) (event : Event) (reply : Reply F) (old new : Tally) : Type 0 where
  pub step : Step forms old.core event reply new.core
  pub ticks : new.ticks ≡ ticked 1 old.ticks
