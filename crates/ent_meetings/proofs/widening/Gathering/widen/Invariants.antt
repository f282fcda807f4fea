use Rattle.std.proofs.Common.{◌<◌, ◌≤◌, [], length, take}
use Rattle.ent_group.specs.declared.members.TheConstants.{MOST_MEMBERS}
use Rattle.ent_meetings.specs.Gathering.{Grows}
use Rattle.ent_meetings.specs.Group.{offers_of}
use Rattle.ent_meetings.specs.Settling.{IsPastAll}
use Rattle.ent_meetings.specs.Waiting.{named}
use Rattle.ent_meetings.proofs.widening.Gathering.widen.Given as goal

abbrev pub invariant-loop-place : goal.invariant-loop-place
invariant-loop-place l = record {
  grows : Grows l.index l.fn.self l.self;
  fewer : l.looks ≤ l.fn.looks;
  past : 0 < l.looks → length l.self.tickets.items < MOST_MEMBERS
      → IsPastAll l.index l.self.tickets.items [] (offers_of (take l.place (named l.index l.self.tickets.items)));
}
