-- Jobs that are lent one at a time, and whose results come in at once.
use Rattle.std.specs.Prelude.{◌≡◌, []}
use Rattle.ent_protocol.specs.Event.{Event, Reply}
use Rattle.ent_protocol.specs.Event as replies
use Rattle.ent_protocol.specs.Job.{Done}
use Rattle.ent_protocol.specs.Run.{Forms}
use Rattle.ent_protocol.specs.State.{State}
use Rattle.ent_protocol.specs.Step.{Step}

-- from a state in which no job is lent an event lends the job of a result
pub record IsLentAlone {F : Type 0} (forms : Forms F) (s : State) (event : Event) (done : Done) (lent : State)
    : Type 0 where
  pub none_lent : s.lent ≡ []
  pub lends : Step forms s event (replies.Lent done.job) lent

-- the member goes on with the result of its statement, or its group is rolled back
abbrev pub IsSingleTaken : {F : Type 0} → Reply F → Type 0
IsSingleTaken (replies.Stepped answer) = Unit {0}
IsSingleTaken (replies.Failed failure group) = Unit {0}
IsSingleTaken other = ⊥

-- the members are answered, or there is no choice
abbrev pub IsJointTaken : {F : Type 0} → Reply F → Type 0
IsJointTaken replies.Answered = Unit {0}
IsJointTaken replies.NoChoice = Unit {0}
IsJointTaken other = ⊥
