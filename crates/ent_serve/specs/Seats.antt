-- What sessions keep while they work.
use Rattle.std.specs.Prelude.{◌≡◌, List, map}
use Rattle.ent_desk.specs.Seen.{SessionState}

-- a session has the same tickets, and the same first
pub record KeepsSeats (before after : SessionState) : Type 0 where
  pub tickets : after.tickets ≡ before.tickets
  pub first : after.first ≡ before.first

-- so do sessions, in each place
pub record SameSeats (before after : List SessionState) : Type 0 where
  pub tickets : map (λ session. session.tickets) after ≡ map (λ session. session.tickets) before
  pub first : map (λ session. session.first) after ≡ map (λ session. session.first) before
