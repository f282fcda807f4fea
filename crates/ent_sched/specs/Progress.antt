-- What events leave of the steps of progress, and the job that one of them lends.
use Rattle.std.specs.Prelude.{◌≡◌, ℕ, []}
use Rattle.ent_protocol.specs.Event.{Event, Lent}
use Rattle.ent_protocol.specs.Job.{Job}
use Rattle.ent_protocol.specs.Run.{Forms}
use Rattle.ent_protocol.specs.State.{State}
use Rattle.ent_protocol.specs.Step.{Step}
use Rattle.ent_protocol_laws.specs.Within.{IsBelow, IsWithin}

-- one at least of the steps of progress that were left is used up
abbrev pub UsesUp : State → State → Type 0
UsesUp s new = (most left : ℕ) → IsWithin most left s → IsBelow most left new

-- an event has lent this job, where none was lent
pub record IsJustLent {F : Type 0} (forms : Forms F) (event : Event) (job : Job) (lent : State) : Type 0 where
  pub before : State
  pub none_lent : before.lent ≡ []
  pub lends : Step forms before event (Lent job) lent
