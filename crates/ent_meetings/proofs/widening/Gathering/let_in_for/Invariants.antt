use Rattle.std.proofs.Common.{◌<◌, ◌≤◌, List, length}
use Rattle.ent_group.specs.declared.members.TheConstants.{MOST_MEMBERS}
use Rattle.ent_lists.specs.Elements.{In}
use Rattle.ent_meetings.specs.declared.pattern.Pattern.{Pattern}
use Rattle.ent_meetings.specs.Gathering.{Grows}
use Rattle.ent_meetings.specs.Group.{offers_of}
use Rattle.ent_meetings.specs.Settling.{IsPassing, IsPast}
use Rattle.ent_meetings.specs.Waiting.{named}
use Rattle.ent_meetings.proofs.widening.Gathering.let_in_for.Given as goal

abbrev pub decreases-loop-looks : goal.decreases-loop-looks
decreases-loop-looks l = l.looks

abbrev pub invariant-loop-looks : goal.invariant-loop-looks
invariant-loop-looks l = record {
  grows : Grows l.index l.fn.self l.self;
  fewer : l.looks ≤ l.fn.looks;
  past : length l.self.tickets.items < MOST_MEMBERS → (offered : List Pattern)
      → IsPast l.index l.fn.self.tickets.items offered
      → In l.offer (offers_of (named l.index l.fn.self.tickets.items))
      → IsPassing l.index l.self.tickets.items offered l.offer l.last;
}
