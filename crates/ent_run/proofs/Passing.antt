-- Whom an asker passes, told of members as they are in a run.
use Rattle.std.proofs.Common.{◌≡◌, ℕ, Bool, true, false, ◌==◌, if◌then◌else◌, List, map, refl, sym, ap, ◌∙◌}
use Rattle.std.specs.Prelude.{Contains}
use Rattle.std.specs.List.{list_any}
use Rattle.ent_group.specs.declared.groups.Membership.{Membership}
use Rattle.ent_group.specs.Groups.{group_of}
use Rattle.ent_lists.specs.Elements.{number_itself}
use Rattle.ent_lock.specs.Use.{Uses}
use Rattle.ent_members.specs.InRun.{in_run, label_or}
use Rattle.ent_members.specs.Order.{tx_of}
use Rattle.ent_protocol.specs.Member.{is_tx}
use Rattle.ent_protocol.specs.State.{Member}
use Rattle.ent_run.specs.InRuns.{in_runs}
use Rattle.ent_run.specs.Locks.{IsLockedRun}
use Rattle.ent_run.specs.Moves.{run_of}
use Rattle.ent_run.specs.Passing.{TellsPassed, asker_of, passes}
use Rattle.ent_run.proofs.InRuns.{any_mapped}
use Rattle.ent_run.proofs.Lists.{any_of, into_map, out_of_map}
use Rattle.ent_run.proofs.Locked.{some_has}

is_false : (b : Bool) → (b ≡ true → ⊥) → b ≡ false
is_false true never = absurd (never refl)
is_false false never = refl

module _ (locks : Uses) (groups : List Membership) (prepared active : List Member) (asker : Member)
    (test : ℕ → Bool) (run : IsLockedRun locks (in_runs locks groups prepared) (in_runs locks groups active))
    (is : (holder : ℕ) → test holder ≡ passes (asker_of asker prepared groups) holder) where
  stands : (tx : ℕ) → list_any (is_tx tx) (in_runs locks groups prepared) ≡ list_any (is_tx tx) prepared
  stands tx = any_mapped (in_run locks groups) (is_tx tx) (is_tx tx) (λ m. refl) prepared

  by_standing : (tx : ℕ) (b : Bool) → list_any (is_tx tx) prepared ≡ b
      → test tx ≡ (if b then label_or tx (group_of groups tx) == asker.group else (tx == asker.tx))
  by_standing tx b so =
      is tx ∙ ap (λ c. if c then label_or tx (group_of groups tx) == asker.group else (tx == asker.tx)) so

  one_prepared : (member : Member) → Contains (in_runs locks groups prepared) member
      → test member.tx ≡ (member.group == asker.group)
  one_prepared member there =
      let own = out_of_map (in_run locks groups) prepared member there in
      by_standing member.tx true
      (sym (stands member.tx)
      ∙ any_of (is_tx member.tx) (in_runs locks groups prepared) member there (number_itself member.tx))
      ∙ ap (λ (m : Member). label_or m.tx (group_of groups m.tx) == asker.group) (sym own.2)
      ∙ ap (λ (m : Member). m.group == asker.group) own.2

  one_active : (member : Member) → Contains (in_runs locks groups active) member
      → test member.tx ≡ (member.tx == asker.tx)
  one_active member there =
      by_standing member.tx false
      (sym (stands member.tx)
      ∙ is_false (list_any (is_tx member.tx) (in_runs locks groups prepared))
      (λ also. run.apart member.tx (some_has (in_runs locks groups prepared) member.tx also)
      (into_map tx_of (in_runs locks groups active) member there)))

  pub tells_passed : TellsPassed asker (run_of (in_runs locks groups prepared) (in_runs locks groups active)) test
  tells_passed = record { prepared = one_prepared; active = one_active }
