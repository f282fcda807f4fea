use Rattle.std.proofs.Common.{take}
use Rattle.ent_page.specs.Paged.{AllBelow}
use Rattle.ent_page.proofs.merging.split_below.Given as goal

abbrev pub invariant-loop-at : goal.invariant-loop-at
invariant-loop-at l = AllBelow (take l.at l.keys) l.bound
