-- The groups of a run: its members, each with the label of its group, and no other.
use Rattle.std.specs.Prelude.{◌≡◌, ◌↔◌, ℕ, ◌==◌, ◌&&◌, Bool, List, ◌++◌, Option, Some, None, Contains, if◌then◌else◌}
use Rattle.std.specs.List.{list_any}
use Rattle.ent_group.specs.declared.groups.Membership.{Membership}
use Rattle.ent_group.specs.Groups.{group_of}
use Rattle.ent_lock.specs.Use.{Uses}
use Rattle.ent_protocol.specs.Member.{is_tx}
use Rattle.ent_protocol.specs.State.{Member}
use Rattle.ent_members.specs.InRun.{AreByNumber}
use Rattle.ent_run.specs.InRuns.{in_runs}
use Rattle.ent_run.specs.Locks.{IsLockedRun}

-- a member of this number has this label
abbrev pub IsLabelled : List Member → ℕ → ℕ → Type 0
IsLabelled members tx group =
    (member : Member) × Contains members member × (member.tx ≡ tx) × (member.group ≡ group)

-- each group is called after one of its members
abbrev pub AreNamed : List Membership → Type 0
AreNamed groups = (tx group : ℕ) → group_of groups tx ≡ Some group → group_of groups group ≡ Some group

-- the groups have exactly the members, each with its label
pub record AreGrouped (groups : List Membership) (members : List Member) : Type 0 where
  pub labels : (tx group : ℕ) → (group_of groups tx ≡ Some group) ↔ IsLabelled members tx group
  pub named : AreNamed groups

-- the members of a run, with the locks that they hold and the groups that they are in
abbrev pub IsRunWith : Uses → List Membership → List Member → List Member → Type 0
IsRunWith locks groups prepared active = IsLockedRun locks prepared active × AreGrouped groups (prepared ++ active)

-- what members have themselves is that of the members of a run, with these locks and groups; tables are locked by their
-- numbers
abbrev pub IsRunOf : Uses → List Membership → List Member → List Member → Type 0
IsRunOf locks groups prepared active =
    IsRunWith locks groups (in_runs locks groups prepared) (in_runs locks groups active) × AreByNumber locks

-- one of the groups' members has this label, and is in a list of members too
abbrev pub is_labelled_among : ℕ → List Member → Membership → Bool
is_labelled_among group members own = (own.group == group) && list_any (is_tx own.member) members

-- a label, unless it is that of the group that leaves
abbrev pub unless_gone : ℕ → Option ℕ → Option ℕ
unless_gone gone None = None
unless_gone gone (Some group) = if group == gone then None else Some group
