use Rattle.ent_match.specs.Links.{Grows, unmarked}
use Rattle.ent_match.proofs.link.mark_all.Given as goal

abbrev pub invariant-rounds : goal.invariant-rounds
invariant-rounds l = Grows l.links l.fn.marks l.marks

abbrev pub decreases-rounds : goal.decreases-rounds
decreases-rounds l = unmarked l.marks
