use Rattle.std.proofs.Common.{◌≡◌, length}
use Rattle.ent_history.specs.JointLines.{rise}
use Rattle.ent_history.proofs.place.rise.Given as goal

-- those that are left rise just where all do
abbrev pub invariant-loop-rest : goal.invariant-loop-rest
invariant-loop-rest l = rise l.rest ≡ rise l.places

abbrev pub decreases-loop-rest : goal.decreases-loop-rest
decreases-loop-rest l = length l.rest
