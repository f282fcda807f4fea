-- When a run may end.
use Rattle.std.specs.Prelude.{◌≡◌, ◌⊎◌, ℕ, ◌||◌, true, false, List, Contains, Option, Some, None}
use Rattle.ent_value.specs.declared.value.Value.{Value}
use Rattle.ent_lock.specs.Use.{IsLeast}
use Rattle.ent_semantics.specs.declared.entangled.Entangled.{Entangled}
use Rattle.ent_semantics.specs.Pool.{IsSafe, Posted, first_tx}
use Rattle.ent_protocol.specs.Begin.{pool_with}
use Rattle.ent_protocol.specs.Event.{Reason, JobOut, CanBegin, Untried, Cycle}
use Rattle.ent_protocol.specs.Member.{Next, Ordinary, Asks, Commits, RollsBack, next_of, is_lent}
use Rattle.ent_protocol.specs.PoolEvents.{IsPresentComponent, IsOut}
use Rattle.ent_protocol.specs.State.{State, Member}
use Rattle.ent_protocol.specs.Uses.{statement_uses, entangled_uses, blocker}
use Rattle.ent_protocol.specs.Waits.{IsDeadlock, NoDeadlock}

-- a job of a transaction is out: one of its statements, or a joint one whose members are exactly a component
pub record OutJoint (s : State) (tx : ℕ) : Type 0 where
  pub asked : List Posted
  pub out : IsOut s asked
  pub component : IsPresentComponent s asked
  pub query : Posted
  pub is_in : Contains asked query
  pub own : query.tx ≡ tx

abbrev pub HasJobOut : State → ℕ → Type 0
HasJobOut s tx = (is_lent s tx ≡ true) ⊎ OutJoint s tx

-- nothing is in conflict with an entangled statement, and the pool stays safe with it
abbrev pub CanPost : State → Member → Entangled Value → Option ℕ → Type 0
CanPost s member statement (Some holder) = ⊥
CanPost s member statement None = IsSafe (pool_with s member statement)

-- the reply to a begin would be neither that it is blocked nor that it is held back
abbrev pub MovesBy : State → Member → Next → Type 0
MovesBy s member (Ordinary statement) = blocker s member (statement_uses statement) ≡ None
MovesBy s member (Asks statement) =
    CanPost s member statement (blocker s member (entangled_uses statement))
MovesBy s member Commits = Unit {0}
MovesBy s member RollsBack = Unit {0}

-- a member neither posted nor prepared, no job of which is out, that would move
pub record CanMove (s : State) (tx : ℕ) : Type 0 where
  pub member : Member
  pub active : Contains s.active member
  pub own : member.tx ≡ tx
  pub waiting : (member.posted || is_lent s tx) ≡ false
  pub moves : MovesBy s member (next_of s member)

-- a component that wasn't tried begins with this transaction
pub record IsUntried (s : State) (tx : ℕ) : Type 0 where
  pub asked : List Posted
  pub component : IsPresentComponent s asked
  pub untried : Contains s.tried asked → ⊥
  pub first : first_tx asked ≡ tx

abbrev pub NoneIs : (ℕ → Type 0) → Type 0
NoneIs P = (tx : ℕ) → P tx → ⊥

-- a reason that holds while the earlier ones don't
abbrev pub IsReason : State → Reason → Type 0
IsReason s (JobOut tx) = IsLeast (HasJobOut s) tx
IsReason s (CanBegin tx) = NoneIs (HasJobOut s) × IsLeast (CanMove s) tx
IsReason s (Untried tx) = NoneIs (HasJobOut s) × NoneIs (CanMove s) × IsLeast (IsUntried s) tx
IsReason s (Cycle members) =
    NoneIs (HasJobOut s) × NoneIs (CanMove s) × NoneIs (IsUntried s) × IsDeadlock s members

-- no job is out; each member that waits is blocked or held back; each component is tried; there is no deadlock
pub record IsQuiet (s : State) : Type 0 where
  pub nothing_out : NoneIs (HasJobOut s)
  pub nobody_moves : NoneIs (CanMove s)
  pub all_tried : NoneIs (IsUntried s)
  pub no_deadlock : NoDeadlock s
