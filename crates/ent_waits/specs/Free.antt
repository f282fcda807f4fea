-- Which members nobody blocks.
use Rattle.std.specs.Prelude.{◌≡◌, ◌||◌, Bool, true, false, None}
use Rattle.ent_protocol.specs.Member.{Next, Asks, next_of, is_lent}
use Rattle.ent_protocol.specs.State.{State, Member}
use Rattle.ent_protocol.specs.Uses.{blocker}
use Rattle.ent_protocol.specs.Waits.{next_uses}

abbrev pub is_posting : Next → Bool
is_posting (Asks statement) = true
is_posting other = false

-- neither posted, nor has a job out
abbrev pub IsIdle : State → Member → Type 0
IsIdle s member = (member.posted || is_lent s member.tx) ≡ false

-- at its turn, and nobody blocks what it does next
pub record IsFree (s : State) (member : Member) : Type 0 where
  pub idle : IsIdle s member
  pub unblocked : blocker s member (next_uses (next_of s member)) ≡ None
