use Rattle.std.proofs.Common.{take}
use Rattle.ent_meetings.specs.Keys.{have_key}
use Rattle.ent_meetings.specs.Postings.{Unposts}
use Rattle.ent_meetings.proofs.postings.unpost.Given as goal

abbrev pub invariant-loop-pattern : goal.invariant-loop-pattern
invariant-loop-pattern l = Unposts l.ticket (have_key (take l.pattern-index l.patterns)) l.initial.postings l.postings
