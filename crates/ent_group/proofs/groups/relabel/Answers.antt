use Rattle.std.proofs.Common.{◌<◌, length, get_or, arith}
use Rattle.ent_group.specs.Groups.{relabelled, alone}
use Rattle.std.proofs.lemmas.List.Edits.{map_over_more}
use Rattle.std.proofs.lemmas.List.{get_or_default}
use Rattle.ent_group.proofs.groups.relabel.Goals as goal

pub loop-membership-preserved : goal.loop-membership-preserved
loop-membership-preserved c =
    let ms = c.loop-membership.memberships in
    let i = c.loop-membership.membership-index in
    let within : i < length ms = omega (arith, c.loop-membership.auto.memberships, c.loop-membership-test.true) in
    let read = get_or ms i (alone 0) in
    rw c.moved_label-membership.ensures
    (map_over_more (relabelled c.args.gone c.args.kept) c.args.memberships.now ms i read c.loop-membership-test.true
    c.loop-membership.invariant (get_or_default ms i (alone 0) read within))
