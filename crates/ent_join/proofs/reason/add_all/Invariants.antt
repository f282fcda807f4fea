use Rattle.std.proofs.Common.{ℕ, ◌<◌}
use Rattle.ent_match.specs.Links.{IsMarked}
use Rattle.ent_join.specs.Reason.{AreMarkedIn}
use Rattle.ent_join.proofs.reason.add_all.Given as goal

abbrev pub invariant-loop-place : goal.invariant-loop-place
invariant-loop-place l = record {
  kept : AreMarkedIn l.fn.marks l.marks;
  more : (place : ℕ) → place < l.place → IsMarked l.more place → IsMarked l.marks place;
}
