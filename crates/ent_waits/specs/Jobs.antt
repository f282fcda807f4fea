-- Whose jobs are out.
use Rattle.std.specs.Prelude.{◌≡◌, ℕ, List, Contains}
use Rattle.ent_semantics.specs.Pool.{Posted}
use Rattle.ent_protocol.specs.Job.{Work, One, Joint}
use Rattle.ent_protocol.specs.PoolEvents.{IsPresentComponent}
use Rattle.ent_protocol.specs.State.{State}

-- one of some statements is of a transaction
abbrev pub HasPostedQuery : List Posted → ℕ → Type 0
HasPostedQuery asked tx = (query : Posted) × Contains asked query × (query.tx ≡ tx)

-- work is of a transaction: its statement's, or that of a component which it is in
abbrev pub IsWorkOf : State → Work → ℕ → Type 0
IsWorkOf s (One single) tx = single.tx ≡ tx
IsWorkOf s (Joint asked) tx = IsPresentComponent s asked × HasPostedQuery asked tx
