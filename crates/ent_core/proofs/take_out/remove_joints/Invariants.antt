use Rattle.std.proofs.lemmas.List.Filters.{FiltersInPlace}
use Rattle.ent_core.specs.TakeOut.{is_joint_of_others}
use Rattle.ent_core.proofs.take_out.remove_joints.Given as goal

abbrev pub invariant-loop-at : goal.invariant-loop-at
invariant-loop-at l = FiltersInPlace (is_joint_of_others l.numbers) l.fn.joints.items l.joints.items l.kept l.at
