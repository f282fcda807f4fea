use Rattle.std.proofs.Common.{sym}
use Rattle.ent_meet.proofs.stepping.close.Goals as goal

pub returns-clause-closes : goal.returns-clause-closes
returns-clause-closes c =
    record {
      last = c.in-Some.last.now;
      kept = sym c.in-Some.ensures.last;
      book = c.in_ok-turn.ensures.book;
      epochs_are = c.in_ok-keep.ensures;
      list = c.turn.ensures.list;
      feed = c.turn.ensures.feed;
    }
