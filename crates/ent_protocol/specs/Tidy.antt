-- What holds of the members and the changes of every state that is reached.
use Rattle.std.specs.Prelude.{◌≡◌, ℕ, Bool, true, false, ◌||◌, []}
use Rattle.std.specs.List.{AllByRecursion}
use Rattle.ent_protocol.specs.Rollback.{is_among}
use Rattle.ent_protocol.specs.State.{State, Change}

-- a transaction is a member of the run
abbrev pub is_member : State → ℕ → Bool
is_member s tx = is_among s.prepared tx || is_among s.active tx

pub record IsTidy (s : State) : Type 0 where
  -- where no run is on, there is no member
  pub no_prepared : s.running ≡ false → s.prepared ≡ []
  pub no_active : s.running ≡ false → s.active ≡ []
  -- what was noted is of members
  pub owned : AllByRecursion (λ (change : Change). is_member s change.tx ≡ true) s.changes
