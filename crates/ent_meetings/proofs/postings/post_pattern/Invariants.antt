use Rattle.ent_meetings.specs.Keys.{has_key_below}
use Rattle.ent_meetings.specs.Postings.{Posts}
use Rattle.ent_meetings.proofs.postings.post_pattern.Given as goal

abbrev pub invariant-loop-place : goal.invariant-loop-place
invariant-loop-place l = Posts l.ticket (has_key_below l.pattern l.place) l.initial.postings l.postings
