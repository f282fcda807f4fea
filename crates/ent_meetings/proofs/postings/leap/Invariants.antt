use Rattle.std.proofs.Common.{◌≤◌, ◌<◌, ℕ}
use Rattle.ent_meetings.specs.Postings.{Agrees}
use Rattle.ent_meetings.proofs.postings.leap.Given as goal

abbrev pub invariant-loop-place : goal.invariant-loop-place
invariant-loop-place l = record {
  from : l.from ≤ l.first;
  none : (ticket : ℕ) → l.from ≤ ticket → ticket < l.first → Agrees l.postings l.pattern ticket → ⊥;
}
