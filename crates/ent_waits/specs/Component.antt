-- The components that may be picked, in the words of the states in which their statements are posted.
use Rattle.std.specs.Prelude.{◌≡◌, ◌≤◌, List, Option, Some, None}
use Rattle.ent_semantics.specs.Pool.{Posted, first_tx}
use Rattle.ent_protocol.specs.Job.{Job}
use Rattle.ent_protocol.specs.Member.{pool}
use Rattle.ent_protocol.specs.PoolEvents.{CanBePicked}
use Rattle.ent_protocol.specs.State.{State}

-- a component that may be picked, with the least first member
pub record IsFirstToPick (s : State) (asked : List Posted) : Type 0 where
  pub can : CanBePicked s asked
  pub least : (others : List Posted) → CanBePicked s others → first_tx asked ≤ first_tx others

abbrev pub IsPickIn : State → Option (List Posted) → Type 0
IsPickIn s (Some asked) = IsFirstToPick s asked
IsPickIn s None = (asked : List Posted) → CanBePicked s asked → ⊥

-- what is picked in each state in which these statements are posted, and these tried, and these jobs lent
abbrev pub IsPick : List Posted → List (List Posted) → List Job → Option (List Posted) → Type 0
IsPick posted tried lent picked =
    (s : State) → pool s ≡ posted → s.tried ≡ tried → s.lent ≡ lent → IsPickIn s picked
