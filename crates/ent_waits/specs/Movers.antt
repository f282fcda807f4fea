-- Who would move.
use Rattle.std.specs.Prelude.{◌≡◌, ℕ}
use Rattle.ent_protocol.specs.Member.{next_of}
use Rattle.ent_protocol.specs.Quiet.{MovesBy}
use Rattle.ent_protocol.specs.State.{State, Member}
use Rattle.ent_waits.specs.Free.{IsIdle}

-- a member, of a number, would move
pub record IsMover (s : State) (member : Member) (tx : ℕ) : Type 0 where
  pub own : member.tx ≡ tx
  pub idle : IsIdle s member
  pub moves : MovesBy s member (next_of s member)
