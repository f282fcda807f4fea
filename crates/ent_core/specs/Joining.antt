-- Results of joint jobs that come in.
use Rattle.std.specs.Prelude.{◌≡◌, ℕ, List, Option, Some, None, slice_get}
use Rattle.ent_form.specs.declared.fault.FormFault.{FormFault}
use Rattle.ent_semantics.specs.Entangled.{Valuation}
use Rattle.ent_semantics.specs.Pool.{Posted}
use Rattle.ent_protocol.specs.Event.{Reply}
use Rattle.ent_protocol.specs.Finish.{IsTaken}
use Rattle.ent_protocol.specs.Job.{Done, Job}
use Rattle.ent_protocol.specs.PoolEvents.{AnswersBy, IsOutstandingJoint, Joins}
use Rattle.ent_protocol.specs.State.{State}

-- what the joint job at an index of the lent ones came to is carried out, and it is lent no more
pub record AnswersAt (s : State) (index : ℕ) (asked : List Posted) (groundings : Option (List Valuation))
    (reply : Reply FormFault) (new : State) : Type 0 where
  pub answers : AnswersBy (record s { lent = new.lent }) asked groundings reply new
  pub taken : (job : Job) → slice_get s.lent index ≡ Some job → IsTaken job s.lent new.lent

-- a result that is outstanding is accepted, with a reply; another one changes nothing, and gets none here
abbrev pub Accepts : State → Done → Option (Reply FormFault) → State → Type 0
Accepts s done (Some reply) new = Joins s done reply new
Accepts s done None new = (IsOutstandingJoint s done → ⊥) × (new ≡ s)
