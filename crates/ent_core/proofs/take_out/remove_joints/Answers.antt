use Rattle.std.proofs.Common.{◌<◌, ◌∙◌, ap, arith, length, not, sym}
use Rattle.std.proofs.lemmas.List.Filters.{FiltersInPlace-more_no, FiltersInPlace-more_swap}
use Rattle.ent_core.proofs.take_out.remove_joints.Goals.{then-not-is_joint_of, else-not-is_joint_of}
use Rattle.ent_core.proofs.take_out.remove_joints.Goals as goal

pub loop-at-preserved : goal.loop-at-preserved
loop-at-preserved c =
    let read = c.index.result.now in
    let within : c.loop-at.at < length c.loop-at.joints.items =
    omega (arith, c.loop-at-test.true, c.loop-at.auto.at-end, c.loop-at.invariant.long) in
    elim c.if-not-is_joint_of.branch [
      | then-not-is_joint_of w ↦
          rw (w.joints-is, w.kept-is)
          (FiltersInPlace-more_swap {x = read} c.loop-at.invariant within
          (ap not (sym c.is_joint_of.ensures ∙ w.if-not-is_joint_of.true)) c.index.ensures w.swap.ensures.by_index)
      | else-not-is_joint_of w ↦
          rw (w.joints-is, w.kept-is)
          (FiltersInPlace-more_no {x = read} c.loop-at.invariant within
          (ap not (sym c.is_joint_of.ensures ∙ w.if-not-is_joint_of.false)) c.index.ensures)
    ]
