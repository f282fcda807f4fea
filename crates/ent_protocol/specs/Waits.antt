-- Who waits for whom.
use Rattle.std.specs.Prelude.{ℕ, ◌≤◌, Bool, not, ◌&&◌, ◌==◌, List, [], ◌∷◌, map, slice_index, if◌then◌else◌}
use Rattle.std.specs.List.{filter, flat_map}
use Rattle.ent_group.specs.Cycle.{IsCycle, IsOnCycle}
use Rattle.ent_protocol.specs.Member.{Next, Ordinary, Asks, Commits, RollsBack, next_of, is_of, is_lent}
use Rattle.ent_protocol.specs.State.{State, Member, Use}
use Rattle.ent_protocol.specs.Uses.{entangled_uses, statement_uses, conflicting}

-- the uses that a member's next statement asks for
abbrev pub next_uses : Next → List Use
next_uses (Ordinary statement) = statement_uses statement
next_uses (Asks statement) = entangled_uses statement
next_uses Commits = []
next_uses RollsBack = []

-- neither posted nor with a job out
abbrev pub is_waiting : State → Member → Bool
is_waiting s member = not member.posted && not (is_lent s member.tx)

-- whom a member waits for while one blocks it: that one, if of its own group; else the unprepared members of the
-- group that that one is of
abbrev pub awaited : State → Member → Member → List Member
awaited s member holder = if holder.group == member.group then holder ∷ [] else filter (is_of holder.group) s.active

abbrev pub waits_of : State → Member → List (ℕ × ℕ)
waits_of s member =
    flat_map (λ holder. map (λ other. (member.tx, other.tx)) (awaited s member holder))
    (conflicting s member (next_uses (next_of s member)))

-- the relation, as pairs of a member and one that it waits for
abbrev pub waits : State → List (ℕ × ℕ)
waits s = flat_map (waits_of s) (filter (is_waiting s) s.active)

-- a deadlock, beginning with the greatest transaction that stands in any
pub record IsDeadlock (s : State) (cycle : List ℕ) : Type 0 where
  pub is_cycle : IsCycle (waits s) cycle
  pub greatest : (tx : ℕ) → IsOnCycle (waits s) tx → tx ≤ slice_index cycle 0

abbrev pub NoDeadlock : State → Type 0
NoDeadlock s = (tx : ℕ) → ¬ (IsOnCycle (waits s) tx)
