-- Why a member can't move now, in the words of the protocol.
use Rattle.std.specs.Prelude.{◌≡◌, ℕ, true, false, List, Contains, Option, Some, None, MatchOption}
use Rattle.ent_semantics.specs.Pool.{Posted, Unsafe}
use Rattle.ent_match.specs.Place.{HasNoneOf}
use Rattle.ent_core.specs.declared.obstacle.Obstacle.{Obstacle}
use Rattle.ent_core.specs.declared.obstacle.Obstacle.TheVariants as told
use Rattle.ent_form.specs.declared.fault.FormFault.{FormFault}
use Rattle.ent_match.specs.Demand.{IsDemand}
use Rattle.ent_match.specs.declared.demand.Demand.{Demand}
use Rattle.ent_members.specs.Conflict.{IsConflict, NoConflict}
use Rattle.ent_members.specs.declared.conflict.Conflict.{Conflict}
use Rattle.ent_protocol.specs.Begin.{Begins}
use Rattle.ent_protocol.specs.Event.{Reply}
use Rattle.ent_protocol.specs.Event as replies
use Rattle.ent_protocol.specs.Lookup.{member_of}
use Rattle.ent_protocol.specs.Member.{active_member, is_prepared, next_of, pool}
use Rattle.ent_protocol.specs.Quiet.{CanMove}
use Rattle.ent_protocol.specs.State.{State, Member, Use}
use Rattle.ent_protocol.specs.Waits.{next_uses}

-- ---- posted statements

abbrev pub IsOf : List Posted → ℕ → Posted → Type 0
IsOf posted tx query = Contains posted query × (query.tx ≡ tx)

-- the posts of a transaction's posted statement fare so
pub record FaresSo (s : State) (tx : ℕ) (demand : Demand) : Type 0 where
  pub query : Posted
  pub own : IsOf (pool s) tx query
  pub fares : IsDemand (pool s) query demand

-- ---- obstacles

-- the reply that a begin would get
abbrev pub obstacle_seen : Obstacle → Reply FormFault
obstacle_seen told.Absent = replies.Absent
obstacle_seen (told.Posted demand) = replies.NotNow
obstacle_seen told.Out = replies.NotNow
obstacle_seen told.Prepared = replies.NotNow
obstacle_seen (told.Blocked holder) = replies.Blocked holder
obstacle_seen (told.HeldBack fault) = replies.HeldBack fault

-- where a member stands that can't begin
abbrev pub StandsSo : State → ℕ → Obstacle → Type 0
StandsSo s tx (told.Posted demand) = FaresSo s tx demand
StandsSo s tx told.Prepared = is_prepared s tx ≡ true
StandsSo s tx told.Out = HasNoneOf (pool s) tx × (is_prepared s tx ≡ false)
StandsSo s tx told.Absent = Unit {0}
StandsSo s tx (told.Blocked holder) = Unit {0}
StandsSo s tx (told.HeldBack fault) = Unit {0}

-- a begin would be refused so, and change nothing; without an obstacle it would get on
abbrev pub IsObstacle : State → ℕ → Option Obstacle → Type 0
IsObstacle s tx (Some obstacle) = Begins s tx (obstacle_seen obstacle) s × StandsSo s tx obstacle
IsObstacle s tx None = CanMove s tx

-- the same of a member that nobody blocks
abbrev pub IsHeldBack : State → ℕ → Option Unsafe → Type 0
IsHeldBack s tx (Some fault) = Begins {F = FormFault} s tx (replies.HeldBack fault) s
IsHeldBack s tx None = CanMove s tx

-- ---- tables

abbrev pub AreBetween : List Use → List Use → Option Conflict → Type 0
AreBetween asked held between = MatchOption between (NoConflict asked held) (IsConflict asked held)

abbrev pub BetweenMembers : State → Option Conflict → Option Member → Option Member → Type 0
BetweenMembers s between (Some asker) (Some holder) = AreBetween (next_uses (next_of s asker)) holder.uses between
BetweenMembers s between (Some asker) None = between ≡ None
BetweenMembers s between None other = between ≡ None

-- between what a member's next statement asks for and what another member holds; where one is none there is nothing
abbrev pub IsBetween : State → ℕ → ℕ → Option Conflict → Type 0
IsBetween s asker holder between = BetweenMembers s between (active_member s asker) (member_of s holder)
