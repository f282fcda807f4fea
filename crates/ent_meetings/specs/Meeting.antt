-- Which of those who wait may meet.
use Rattle.std.specs.Prelude.{ℕ, ◌≤◌, All, Any, Contains, List, length}
use Rattle.std.specs.List.Sorted.{IsStrictlyIncreasing}
use Rattle.ent_group.specs.declared.members.TheConstants.{MOST_MEMBERS}
use Rattle.ent_meetings.specs.PartyMeeting.{IsClear, IsClosed}
use Rattle.ent_meetings.specs.Waiting.{Waiting, Waits, named}

-- those who wait under these tickets, the root among them, need nobody else
pub record IsClosedWith (waiting : Waiting) (root : ℕ) (tickets : List ℕ) : Type 0 where
  pub waits : All (Waits waiting) tickets
  pub has_root : Contains tickets root
  pub closed : IsClosed (named waiting tickets)

-- the root stands in no such set, of any size
abbrev pub IsLonely : Waiting → ℕ → Type 0
IsLonely waiting root = (tickets : List ℕ) → IsClosedWith waiting root tickets → ⊥

-- they are so few that one run can have them, by arrival
pub record IsMeeting (waiting : Waiting) (root : ℕ) (tickets : List ℕ) : Type 0 where
  pub stands : IsClosedWith waiting root tickets
  pub by_arrival : IsStrictlyIncreasing tickets
  pub bound : length tickets ≤ MOST_MEMBERS

-- and none of them is held back for another
pub record IsClearMeeting (waiting : Waiting) (root : ℕ) (tickets : List ℕ) : Type 0 where
  pub meets : IsMeeting waiting root tickets
  pub clear : IsClear (named waiting tickets)

-- each ticket of the one is among the others
abbrev pub IsWithin : List ℕ → List ℕ → Type 0
IsWithin one others = All (Contains others) one

-- one of the sets is within these
abbrev pub HasOneOf : List (List ℕ) → List ℕ → Type 0
HasOneOf sets others = Any (λ one. IsWithin one others) sets
