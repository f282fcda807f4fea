use Rattle.ent_meetings.specs.Keys.{has_key_below}
use Rattle.ent_meetings.specs.Postings.{Unposts}
use Rattle.ent_meetings.proofs.postings.unpost_pattern.Given as goal

abbrev pub invariant-loop-place : goal.invariant-loop-place
invariant-loop-place l = Unposts l.ticket (has_key_below l.pattern l.place) l.initial.postings l.postings
