use Rattle.std.proofs.Common.{◌≡◌, ℕ, List, ◌++◌, map, sym, ap, subst, ◌∙◌}
use Rattle.std.specs.Prelude.{Contains, IsSome}
use Rattle.std.specs.Option.{option_map}
use Rattle.std.proofs.lemmas.List.Elements.{Contains-append_left, Contains-append_right}
use Rattle.ent_group.specs.Groups.{group_of}
use Rattle.ent_members.specs.Order.{tx_of}
use Rattle.ent_protocol.specs.PoolEvents.{in_joined_group, joined_label}
use Rattle.ent_protocol.specs.State.{Member}
use Rattle.ent_run.specs.Grouped.{IsRunWith}
use Rattle.ent_run.specs.InRuns.{in_runs}
use Rattle.ent_run.specs.Joined.{JoinGroups, labels_in}
use Rattle.ent_run.specs.Moves.{run_of}
use Rattle.ent_run.specs.Run.{Run}
use Rattle.ent_run.proofs.InRuns.{joined_in_runs}
use Rattle.ent_run.proofs.JoinedRuns.{both_in_runs, each_has, each_number_has}
use Rattle.ent_run.proofs.RunWith.{Merging, joined_with, own}
use Rattle.ent_run.proofs.run.Run.join.Goals as goal
use Rattle.ent_run.proofs.run.Run.join.Goals.{After-merge_answered}

abbrev merging : (c : After-merge_answered) → Merging
merging c = record {
  numbers = c.args.numbers.now;
  locks = c.self.inside.locks;
  groups = c.self.inside.groups;
  new = c.merge_answered.new.groups;
  prepared = in_runs c.self.inside.locks c.self.inside.groups c.self.inside.members.prepared;
  active = in_runs c.self.inside.locks c.self.inside.groups c.self.inside.members.active;
  labels = λ x. c.merge_answered.ensures c.self.inside.locks x
      ∙ ap (λ (ms : List Member). option_map (joined_label (labels_in c.args.numbers.now
      (in_runs c.self.inside.locks c.self.inside.groups ms))) (group_of c.self.inside.groups x))
      (λ i. c.prepared-prepared.ensures i ++ c.active-active.ensures i)
      ∙ ap (λ (ms : List Member). option_map (joined_label (labels_in c.args.numbers.now ms))
      (group_of c.self.inside.groups x))
      (both_in_runs c.self.inside.locks c.self.inside.groups c.self.inside.members.prepared
      c.self.inside.members.active);
  run = c.self.invariant.0;
}

joined_prepared : (c : After-merge_answered)
    → in_runs c.self.inside.locks c.merge_answered.new.groups c.self.inside.members.prepared
    ≡ map (in_joined_group (own (merging c)))
    (in_runs c.self.inside.locks c.self.inside.groups c.self.inside.members.prepared)
joined_prepared c =
    let inside = c.self.inside in
    joined_in_runs inside.locks inside.groups c.merge_answered.new.groups (own (merging c)) (merging c).labels
    inside.members.prepared
    (λ m there. each_has inside.locks inside.groups inside.members.prepared inside.members.active c.self.invariant.0.1 m
    (Contains-append_left inside.members.prepared inside.members.active m there))

joined_active : (c : After-merge_answered)
    → in_runs c.self.inside.locks c.merge_answered.new.groups c.self.inside.members.active
    ≡ map (in_joined_group (own (merging c)))
    (in_runs c.self.inside.locks c.self.inside.groups c.self.inside.members.active)
joined_active c =
    let inside = c.self.inside in
    joined_in_runs inside.locks inside.groups c.merge_answered.new.groups (own (merging c)) (merging c).labels
    inside.members.active
    (λ m there. each_has inside.locks inside.groups inside.members.prepared inside.members.active c.self.invariant.0.1 m
    (Contains-append_right inside.members.prepared inside.members.active m there))

pub merge_answered-requires-clause-members : goal.merge_answered-requires-clause-members
merge_answered-requires-clause-members c =
    let inside = c.self.inside in
    subst (λ (ms : List Member). (tx : ℕ) → Contains (map tx_of ms) tx → IsSome (group_of inside.groups tx))
    (λ i. sym c.prepared-prepared.ensures i ++ sym c.active-active.ensures i)
    (each_number_has inside.locks inside.groups inside.members.prepared inside.members.active c.self.invariant.0.1)

pub invariant_of-self : goal.invariant_of-self
invariant_of-self c =
    let w = (goal.at.invariant_of-self c).After-merge_answered in
    let inside = c.self.inside in (
      subst (λ (ms : List Member). IsRunWith inside.locks c.merge_answered.new.groups ms
          (in_runs inside.locks c.merge_answered.new.groups inside.members.active)) (sym (joined_prepared w))
          (subst (IsRunWith inside.locks c.merge_answered.new.groups
          (map (in_joined_group (own (merging w))) (in_runs inside.locks inside.groups inside.members.prepared)))
          (sym (joined_active w)) (joined_with (merging w))),
      c.self.invariant.1,
    )

pub returns : goal.returns
returns c =
    let w = (goal.at.returns c).After-merge_answered in
    let inside = c.self.inside in
    subst (λ (run : Run). JoinGroups (labels_in c.args.numbers.now (run.prepared ++ run.active)) run
    (run_of (in_runs inside.locks c.merge_answered.new.groups inside.members.prepared)
    (in_runs inside.locks c.merge_answered.new.groups inside.members.active))) c.self.view_is
    (record { prepared = joined_prepared w; active = joined_active w })
