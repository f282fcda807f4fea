-- What is picked.
use Rattle.std.specs.Prelude.{◌≡◌, List}
use Rattle.ent_waits.specs.Component.{IsFirstToPick}
use Rattle.ent_semantics.specs.Pool.{Posted}
use Rattle.ent_protocol.specs.Job.{Job}
use Rattle.ent_protocol.specs.PoolEvents.{CanBePicked, joint_job}
use Rattle.ent_protocol.specs.State.{State}

-- the job of a component that may be picked, with the least first member
pub record IsPickedJob (s : State) (job : Job) : Type 0 where
  pub asked : List Posted
  pub first : IsFirstToPick s asked
  pub is : job ≡ joint_job s asked

abbrev pub NoneCanBePicked : State → Type 0
NoneCanBePicked s = (asked : List Posted) → CanBePicked s asked → ⊥
