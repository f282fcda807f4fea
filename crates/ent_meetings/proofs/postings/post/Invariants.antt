use Rattle.std.proofs.Common.{take}
use Rattle.ent_meetings.specs.Keys.{have_key}
use Rattle.ent_meetings.specs.Postings.{Posts}
use Rattle.ent_meetings.proofs.postings.post.Given as goal

abbrev pub invariant-loop-pattern : goal.invariant-loop-pattern
invariant-loop-pattern l = Posts l.ticket (have_key (take l.pattern-index l.patterns)) l.initial.postings l.postings
