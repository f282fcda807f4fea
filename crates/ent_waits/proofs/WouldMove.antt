-- Who would move, in the words of the protocol.
use Rattle.std.proofs.Common.{◌≡◌, ◌||◌, ℕ, false, List, Some, sym, subst, arith}
use Rattle.std.specs.Prelude.{Contains}
use Rattle.ent_lock.specs.Use.{IsLeastIfAny}
use Rattle.ent_protocol.specs.Member.{is_lent, next_of}
use Rattle.ent_protocol.specs.Quiet.{CanMove, MovesBy}
use Rattle.ent_protocol.specs.State.{State, Member}
use Rattle.ent_waits.specs.Movers.{IsMover}
use Rattle.ent_waits.specs.Free.{IsIdle}

-- a member that would move is the least of itself
pub mover : (s : State) (member : Member) (tx : ℕ) → tx ≡ member.tx → IsIdle s member
    → MovesBy s member (next_of s member) → IsLeastIfAny (IsMover s member) (Some tx)
mover s member tx is idle moves =
    (record { own = sym is; idle = idle; moves = moves }, λ other m. let own = m.own in omega (arith, is, own))

-- one of some members, of a number, would move
abbrev pub HasMoverIn : State → List Member → ℕ → Type 0
HasMoverIn s members tx = (member : Member) × Contains members member × IsMover s member tx

pub can_move : (s : State) (tx : ℕ) → HasMoverIn s s.active tx → CanMove s tx
can_move s tx (member, active, moves) = record {
  member = member;
  active = active;
  own = moves.own;
  waiting = subst (λ (n : ℕ). (member.posted || is_lent s n) ≡ false) moves.own moves.idle;
  moves = moves.moves;
}

pub has_mover : (s : State) (tx : ℕ) → CanMove s tx → HasMoverIn s s.active tx
has_mover s tx can = (
  can.member,
  can.active,
  record {
    own = can.own;
    idle = subst (λ (n : ℕ). (can.member.posted || is_lent s n) ≡ false) (sym can.own) can.waiting;
    moves = can.moves;
  },
)
