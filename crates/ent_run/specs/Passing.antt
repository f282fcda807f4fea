-- Whom a member that asks for uses passes.
use Rattle.std.specs.Prelude.{◌≡◌, ℕ, ◌==◌, ◌&&◌, Bool, not, List, Contains, if◌then◌else◌}
use Rattle.std.specs.List.{list_any}
use Rattle.ent_group.specs.declared.groups.Membership.{Membership}
use Rattle.ent_group.specs.Groups.{group_of}
use Rattle.ent_lock.specs.declared.holders.Holder.{Holder}
use Rattle.ent_lock.specs.declared.mode.Mode.{Mode}
use Rattle.ent_lock.specs.Mode.{in_conflict}
use Rattle.ent_members.specs.InRun.{label_or}
use Rattle.ent_protocol.specs.Member.{is_tx}
use Rattle.ent_protocol.specs.State.{Member}
use Rattle.ent_run.specs.Run.{Run}

-- a member that asks for uses, beside those that are prepared
pub record Asker : Type 0 where
  pub prepared : List Member
  pub groups : List Membership
  pub group : ℕ
  pub tx : ℕ

abbrev pub asker_of : Member → List Member → List Membership → Asker
asker_of member prepared groups =
    record { prepared = prepared; groups = groups; group = member.group; tx = member.tx }

-- it passes those of its group among the prepared members, and itself, if it isn't one of them
abbrev pub passes : Asker → ℕ → Bool
passes asker holder =
    if list_any (is_tx holder) asker.prepared
    then label_or holder (group_of asker.groups holder) == asker.group
    else (holder == asker.tx)

-- a holder of a table is in conflict with a mode, and isn't passed
abbrev pub is_in_the_way : Mode → Asker → Holder → Bool
is_in_the_way mode asker held = in_conflict held.mode mode && not (passes asker held.holder)

-- a test tells of a run's members whom an asker passes: of those that are prepared the ones of its group, and of the
-- others itself
pub record TellsPassed (asker : Member) (run : Run) (test : ℕ → Bool) : Type 0 where
  pub prepared : (member : Member) → Contains run.prepared member → test member.tx ≡ (member.group == asker.group)
  pub active : (member : Member) → Contains run.active member → test member.tx ≡ (member.tx == asker.tx)
