use Rattle.std.proofs.Common.{map}
use Rattle.ent_protocol.specs.Reached.{book_of}
use Rattle.ent_semantics.specs.Book.{IsLegal}
use Rattle.ent_core.specs.Event.{event_seen}
use Rattle.ent_core.specs.Play.{AreMade}
use Rattle.ent_core.specs.Reply.{reply_seen}
use Rattle.ent_core.proofs.play.step_all.Given as goal

-- those so far were made, each with its reply
abbrev pub invariant-loop-event : goal.invariant-loop-event
invariant-loop-event l = record {
  made : AreMade l.fn.core (map event_seen l.yielded) (map reply_seen l.replies) l.core;
  legal : IsLegal (book_of l.core);
}
