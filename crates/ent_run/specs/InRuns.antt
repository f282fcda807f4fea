-- Lists of members as they are in a run.
use Rattle.std.specs.Prelude.{ℕ, ◌==◌, Bool, not, List, map}
use Rattle.ent_group.specs.declared.groups.Membership.{Membership}
use Rattle.ent_group.specs.Groups.{group_of}
use Rattle.ent_lock.specs.Use.{Uses}
use Rattle.ent_protocol.specs.State.{Member}
use Rattle.ent_members.specs.InRun.{in_run, label_or}

-- each with the locks that the lock table shows for it, and the label that the groups give it
abbrev pub in_runs : Uses → List Membership → List Member → List Member
in_runs locks groups members = map (in_run locks groups) members

-- the groups give a member this label
abbrev pub is_labelled : List Membership → ℕ → Member → Bool
is_labelled groups group own = label_or own.tx (group_of groups own.tx) == group

abbrev pub is_otherwise_labelled : List Membership → ℕ → Member → Bool
is_otherwise_labelled groups group own = not (is_labelled groups group own)
