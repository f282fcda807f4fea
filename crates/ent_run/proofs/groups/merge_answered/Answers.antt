use Rattle.std.proofs.Common.{◌≡◌, ℕ, List, ◌++◌, sym, ap, subst, ◌∙◌}
use Rattle.std.specs.Prelude.{IsSome}
use Rattle.std.specs.FinSet as finite
use Rattle.std.specs.List.{AllByRecursion, filter_map}
use Rattle.std.specs.Option.{option_map}
use Rattle.ent_group.specs.Groups.{group_of}
use Rattle.ent_lock.specs.Use.{Uses}
use Rattle.ent_protocol.specs.PoolEvents.{joined_label}
use Rattle.ent_protocol.specs.State.{Member}
use Rattle.ent_run.specs.InRuns.{in_runs}
use Rattle.ent_run.specs.Joined.{labels_in}
use Rattle.ent_run.proofs.JoinedRuns.{known_in_runs, numbers_seen}
use Rattle.ent_run.proofs.Merged.{each_known, labels_are, numbers_among, numbers_gathered}
use Rattle.ent_run.proofs.groups.merge_answered.Goals as goal
use Rattle.ent_run.proofs.groups.merge_answered.Goals.{After-as_slice}

abbrev members : After-as_slice → List Member
members c = c.args.prepared.now ++ c.args.active.now

-- the numbers of the members that are answered
joined_are : (c : After-as_slice) (locks : Uses) → c.as_slice.result.now
    ≡ numbers_among c.args.answered.now (in_runs locks c.args.groups.now (members c))
joined_are c locks =
    c.as_slice.ensures.list
    ∙ numbers_gathered c.args.answered.now c.new-joined.result c.gather_joined.new.joined c.gather_joined-2.new.joined
    c.args.prepared.now c.args.active.now c.new-joined.ensures c.gather_joined.ensures.list
    c.gather_joined-2.ensures.list
    ∙ numbers_seen locks c.args.groups.now c.args.answered.now (members c)

labels_joined : (c : After-as_slice) (locks : Uses) → filter_map (group_of c.args.groups.now) c.as_slice.result.now
    ≡ labels_in c.args.answered.now (in_runs locks c.args.groups.now (members c))
labels_joined c locks =
    ap (filter_map (group_of c.args.groups.now)) (joined_are c locks)
    ∙ labels_are c.args.groups.now c.args.answered.now (in_runs locks c.args.groups.now (members c))
    (known_in_runs locks c.args.groups.now (members c) c.requires.members)

pub merge_all-requires : goal.merge_all-requires
merge_all-requires c =
    let w = (goal.at.merge_all-requires c).After-as_slice in
    subst (λ (numbers : List ℕ). AllByRecursion (λ tx. IsSome (group_of c.args.groups.now tx)) numbers)
    (sym (joined_are w finite.empty))
    (each_known c.args.answered.now c.args.groups.now (in_runs finite.empty c.args.groups.now (members w))
    (known_in_runs finite.empty c.args.groups.now (members w) c.requires.members))

pub returns : goal.returns
returns c = λ locks x.
    c.merge_all.ensures x
    ∙ ap (λ (labels : List ℕ). option_map (joined_label labels) (group_of c.args.groups.now x))
    (labels_joined (goal.at.returns c).After-as_slice locks)
