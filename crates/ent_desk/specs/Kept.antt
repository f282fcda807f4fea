-- What the lock keeps.
use Rattle.std.specs.Prelude.{◌≡◌, ℕ, length}
use Rattle.ent_protocol.specs.Reached.{IsGatheredAt}
use Rattle.ent_protocol.specs.State.{State}
use Rattle.ent_core.specs.Passed.{resolved_forms}

-- The core is reached from the state that so many submits made of its opening's own, and as many tickets and receipts
-- were counted as it has scripts and journal entries.
pub record IsKeptDesk (core : State) (count by_scripts by_entries : ℕ) : Type 0 where
  pub gathered : IsGatheredAt resolved_forms count core
  pub scripts : by_scripts ≡ length core.submitted
  pub entries : by_entries ≡ length core.journal
