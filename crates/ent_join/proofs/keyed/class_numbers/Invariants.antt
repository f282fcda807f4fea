use Rattle.std.proofs.Common.{◌≡◌, ◌++◌, drop}
use Rattle.ent_join.specs.Keyed.{class_numbers}
use Rattle.ent_join.proofs.keyed.class_numbers.Given as goal

abbrev pub invariant-loop-slot : goal.invariant-loop-slot
invariant-loop-slot l = l.classes.items ++ class_numbers (drop l.slot-index l.columns) ≡ class_numbers l.columns
