use Rattle.std.proofs.Common.{◌∷◌, take, get_or}
use Rattle.std.specs.Prelude.{IsSome}
use Rattle.ent_group.specs.Groups.{group_of}
use Rattle.ent_run.proofs.Merged.{all_at, labels_of, merged_first, merged_in, merged_more}
use Rattle.ent_run.proofs.groups.merge_into.Goals as goal

pub loop-other-init : goal.loop-other-init
loop-other-init c = merged_first c.args.groups.now c.args.first c.requires.0

pub merge-requires-clause-left_in : goal.merge-requires-clause-left_in
merge-requires-clause-left_in c =
    merged_in c.args.groups.now c.loop-other.groups
    (labels_of c.args.groups.now (c.args.first ∷ take c.loop-other.other-index c.args.others.now)) c.args.first
    c.requires.0 c.loop-other.invariant

pub merge-requires-clause-right_in : goal.merge-requires-clause-right_in
merge-requires-clause-right_in c =
    merged_in c.args.groups.now c.loop-other.groups
    (labels_of c.args.groups.now (c.args.first ∷ take c.loop-other.other-index c.args.others.now))
    (get_or c.args.others.now c.loop-other.other-index 0)
    (all_at (λ tx. IsSome (group_of c.args.groups.now tx)) c.args.others.now c.loop-other.other-index 0
    c.loop-other-test.true c.requires.1)
    c.loop-other.invariant

pub loop-other-preserved : goal.loop-other-preserved
loop-other-preserved c =
    merged_more c.args.groups.now c.loop-other.groups c.merge.new.self c.args.first c.args.others.now
    c.loop-other.other-index 0 c.loop-other-test.true c.requires.0
    (all_at (λ tx. IsSome (group_of c.args.groups.now tx)) c.args.others.now c.loop-other.other-index 0
    c.loop-other-test.true c.requires.1)
    c.loop-other.invariant c.merge.ensures.labels
