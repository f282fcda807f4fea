use Rattle.ent_match.specs.Components.{joins_of}
use Rattle.ent_match.specs.Labels.{Lowers, total}
use Rattle.ent_match.proofs.label.lower_all.Given as goal

abbrev pub invariant-rounds : goal.invariant-rounds
invariant-rounds l = Lowers (joins_of l.links l.removed) l.fn.labels l.labels

abbrev pub decreases-rounds : goal.decreases-rounds
decreases-rounds l = total l.labels
