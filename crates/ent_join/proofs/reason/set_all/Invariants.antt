use Rattle.std.proofs.Common.{ℕ, ◌<◌}
use Rattle.ent_match.specs.Links.{IsMarked}
use Rattle.ent_join.proofs.reason.set_all.Given as goal

abbrev pub invariant-loop-place : goal.invariant-loop-place
invariant-loop-place l = (place : ℕ) → place < l.place → IsMarked l.from place → IsMarked l.marks place
