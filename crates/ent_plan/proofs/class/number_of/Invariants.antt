use Rattle.std.proofs.Common.{take}
use Rattle.ent_plan.specs.Classes.{IsNewTo}
use Rattle.ent_plan.proofs.class.number_of.Given as goal

-- none of the classes so far has the representative
abbrev pub invariant-loop-number : goal.invariant-loop-number
invariant-loop-number l = IsNewTo (take l.number l.classes) l.representative
