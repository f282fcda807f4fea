-- What a move makes of a core: an event, and the result of the job that the event lends.
use Rattle.std.specs.Prelude.{◌≡◌, ◌⊎◌, []}
use Rattle.ent_core.specs.Event.{MayWantMemory}
use Rattle.ent_form.specs.declared.fault.FormFault.{FormFault}
use Rattle.ent_sched.specs.Passed.{resolved_forms}
use Rattle.ent_protocol.specs.Event.{Event, Reply, Lent, Recall, Recalled}
use Rattle.ent_protocol.specs.Event as events
use Rattle.ent_protocol.specs.Job.{Done, Job, IsEvaluated}
use Rattle.ent_protocol.specs.State.{State}
use Rattle.ent_protocol.specs.Step.{Step}
use Rattle.ent_protocol_laws.specs.Lending.{IsJointTaken, IsSingleTaken}
use Rattle.ent_driver.specs.Drives.{OfOpen}
use Rattle.ent_driver.specs.declared.driver.Driver.{Driver}
use Rattle.ent_driver.specs.declared.driver.Driver.TheVariants as drivers
use Rattle.ent_driver.specs.declared.fault.DriverFault.{DriverFault}
use Rattle.ent_driver.specs.declared.fault.DriverFault.TheVariants.{Memory}
use Rattle.ent_driver.specs.declared.moves.Move.{Move}
use Rattle.ent_driver.specs.declared.moves.Move.TheVariants as moves

abbrev pub event_of : Move → Event
event_of moves.StartRun = events.StartRun
event_of (moves.Begin tx) = events.Begin tx
event_of moves.Pick = events.Pick
event_of moves.BreakCycle = events.BreakCycle
event_of moves.EndRun = events.EndRun

-- ---- jobs

-- how the result of a job comes in: what was picked is answered, and what was begun is finished
abbrev pub result_event : Event → Done → Event
result_event events.Pick done = events.JoinAnswer done
result_event other done = events.Finish done

-- a result that is taken: what was picked is answered or has no choice, and what was begun is done or failed
abbrev pub IsTaken : Event → Reply FormFault → Type 0
IsTaken events.Pick reply = IsJointTaken reply
IsTaken other reply = IsSingleTaken reply

-- The result of a job that the event has lent comes in. It is what the job's work means over its own tables, and it is
-- taken, with this reply. No job is lent then.
pub record TakesResult (event : Event) (job : Job) (lent : State) (reply : Reply FormFault) (new : State)
    : Type 0 where
  pub done : Done
  pub of_job : done.job ≡ job
  pub meant : IsEvaluated done
  pub comes_in : Step resolved_forms lent (result_event event done) reply new
  pub taken : IsTaken event reply
  pub none_lent : new.lent ≡ []

-- the event lends a job, whose result comes in at once
pub record GoesByJob (event : Event) (s : State) (reply : Reply FormFault) (new : State) : Type 0 where
  pub job : Job
  pub lent : State
  pub lends : Step resolved_forms s event (Lent job) lent
  pub takes : TakesResult event job lent reply new

-- the event has this reply and lends no job; or the result of the job that it lends has it
abbrev pub Goes : Event → State → Reply FormFault → State → Type 0
Goes event s reply new =
    (Step resolved_forms s event reply new × (new.lent ≡ [])) ⊎ GoesByJob event s reply new

-- Memory ran out. It may want memory, and nothing is changed; or the job that it lends stays lent.
abbrev pub Sticks : Event → State → State → Type 0
Sticks event s new =
    ((new ≡ s) × MayWantMemory s event) ⊎ ((job : Job) × Step resolved_forms s event (Lent job) new)

-- ---- moves

-- all jobs are taken back, and the event of the move is made, with its result if it lends a job
pub record Makes (asked : Move) (s : State) (reply : Reply FormFault) (new : State) : Type 0 where
  pub recalled : State
  pub recalls : Step resolved_forms s Recall Recalled recalled
  pub goes : Goes (event_of asked) recalled reply new

-- all jobs are taken back, and memory ran out for what is left of the move
pub record StopsMove (asked : Move) (s new : State) : Type 0 where
  pub recalled : State
  pub recalls : Step resolved_forms s Recall Recalled recalled
  pub sticks : Sticks (event_of asked) recalled new

-- ---- of a driver

abbrev pub Moves : Move → Driver → Reply FormFault → Driver → Type 0
Moves asked old reply new =
    (s s' : State) × (old ≡ drivers.Open s) × (new ≡ drivers.Open s') × Makes asked s reply s'

-- memory ran out, and what was done stands; or nothing is open
abbrev pub IsNotMade : Move → Driver → Driver → DriverFault → Type 0
IsNotMade asked old new fault =
    OfOpen old fault (λ s. (fault ≡ Memory) × (s' : State) × (new ≡ drivers.Open s') × StopsMove asked s s')
