-- Who waits for whom, one member and another at a time.
use Rattle.std.specs.Prelude.{◌≡◌, ℕ, true, ◌==◌, ◌&&◌, Bool, not}
use Rattle.std.specs.Prelude.{false, List, map, filter, Option, None, Some, if◌then◌else◌}
use Rattle.std.specs.List.{list_any}
use Rattle.ent_group.specs.declared.groups.Membership.{Membership}
use Rattle.ent_group.specs.Groups.{group_of}
use Rattle.ent_lock.specs.declared.holders.Holder.{Holder}
use Rattle.ent_lock.specs.declared.mode.Mode.{Mode}
use Rattle.ent_lock.specs.Mode.{in_conflict}
use Rattle.ent_lock.specs.Use.{Uses}
use Rattle.ent_run.specs.Locks.{BlocksUses}
use Rattle.ent_run.specs.Passing.{Asker, passes}
use Rattle.ent_protocol.specs.State.{State, Member, Use}
use Rattle.ent_protocol.specs.Uses.{conflicting}

-- with one of a number and a label blocking it, a member of a group waits for another: for that one, if of its own
-- group, else for each of that one's group
abbrev pub waits_by : ℕ → Member → ℕ → Option ℕ → Bool
waits_by group other holder None = false
waits_by group other holder (Some own) = if own == group then holder == other.tx else (other.group == own)

abbrev pub waits_over : ℕ → Member → Member → Bool
waits_over group other holder = waits_by group other holder.tx (Some holder.group)

-- a member that asks for uses waits for another
abbrev pub is_awaited : State → Member → List Use → Member → Bool
is_awaited s asker asked other = list_any (waits_over asker.group other) (conflicting s asker asked)

-- the pairs of a member that asks for uses and one that it waits for, each once
abbrev pub pairs_of : State → Member → List Use → List (ℕ × ℕ)
pairs_of s asker asked = map (λ other. (asker.tx, other.tx)) (filter (is_awaited s asker asked) s.active)

-- the same by the groups
abbrev pub is_awaited_over : List Membership → ℕ → Member → ℕ → Bool
is_awaited_over groups group other holder = waits_by group other holder (group_of groups holder)

-- a holder of a table is in conflict with a mode, isn't passed, and makes a member of a group wait for another
abbrev pub makes_wait : Mode → Asker → List Membership → ℕ → Member → Holder → Bool
makes_wait mode asker groups group other held =
    in_conflict held.mode mode && (not (passes asker held.holder)
    && is_awaited_over groups group other held.holder)

-- a transaction that isn't passed holds a use in conflict with one that is asked for, and makes a member of a group
-- wait for another
abbrev pub IsMadeToWait : Uses → List Membership → List Use → (ℕ → Bool) → ℕ → Member → Type 0
IsMadeToWait locks groups asked test group other =
    (v : ℕ) × BlocksUses locks asked test v × (is_awaited_over groups group other v ≡ true)
