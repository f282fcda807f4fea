-- Events that lead on, their number, and their ticks.
use Rattle.std.specs.Prelude.{◌≡◌, ◌≤◌, ℕ, ◌+◌, ◌*◌, length}
use Rattle.ent_value.specs.Ticks.{ticked}
use Rattle.ent_protocol.specs.Reached.{LeadsTo}
use Rattle.ent_protocol.specs.Run.{Forms}
use Rattle.ent_protocol.specs.State.{State, members}
use Rattle.ent_sched.specs.Tally.{Tally}

-- So many events lead from one state to another; no script comes in.
pub record LeadsOn {F : Type 0} (forms : Forms F) (count : ℕ) (s new : State) : Type 0 where
  pub leads : LeadsTo forms count s new
  pub opening : new.opening ≡ s.opening
  pub submitted : new.submitted ≡ s.submitted

-- The same in at most `most` events, each of which ticks once.
pub record TicksOn {F : Type 0} (forms : Forms F) (most : ℕ) (old new : Tally) : Type 0 where
  pub count : ℕ
  pub few : count ≤ most
  pub leads_on : LeadsOn forms count old.core new.core
  pub ticks : new.ticks ≡ ticked count old.ticks

-- the most events of a round: a begin and a finish for each member, a pick and its answer, and a broken cycle
abbrev pub events_of_round : State → ℕ
events_of_round s = 2 * length (members s) + 3
