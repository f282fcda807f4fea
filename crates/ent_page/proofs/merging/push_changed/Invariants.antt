use Rattle.std.proofs.Common.{drop}
use Rattle.ent_page.proofs.Changes.{IsUnderWay}
use Rattle.ent_page.proofs.merging.push_changed.Given as goal

abbrev pub invariant-loop-index : goal.invariant-loop-index
invariant-loop-index l = IsUnderWay l.page l.removed-2 l.added-2 l.fn.out l.out (drop l.index l.page) l.removed l.added
