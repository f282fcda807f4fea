use Rattle.std.proofs.Common.{◌≡◌, ◌++◌}
use Rattle.std.specs.Prelude.{string_bytes}
use Rattle.ent_history.specs.Filling.{filling}
use Rattle.ent_history.proofs.begins.filled.Given as goal

-- what is there, with what is left to be put behind it
abbrev pub invariant-loop-left : goal.invariant-loop-left
invariant-loop-left l = string_bytes l.text ++ filling l.left ≡ l.fn.lines ++ filling l.fn.more

abbrev pub decreases-loop-left : goal.decreases-loop-left
decreases-loop-left l = l.left
