-- What events leave of the tries.
use Rattle.std.specs.Prelude.{◌≡◌, ◌<◌, ◌≤◌, true, false}
use Rattle.ent_protocol.specs.State.{State}
use Rattle.ent_protocol_laws.specs.Tries.{tries_left}

-- no try is added, and where a run that was on is over, one is used up
pub record UsesTries (s new : State) : Type 0 where
  pub kept : tries_left new ≤ tries_left s
  pub used : s.running ≡ true → new.running ≡ false → tries_left new < tries_left s
