use Rattle.std.proofs.Common.{◌≡◌, take}
use Rattle.ent_meetings.specs.Group.{seen}
use Rattle.ent_meetings.specs.Waiting.{named}
use Rattle.ent_meetings.proofs.index.Index.parties.Given as goal

abbrev pub invariant-loop-ticket : goal.invariant-loop-ticket
invariant-loop-ticket l = seen l.parties.items ≡ named l.self (take l.ticket-index l.tickets)
