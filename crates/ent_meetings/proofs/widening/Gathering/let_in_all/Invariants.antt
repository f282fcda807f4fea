use Rattle.std.proofs.Common.{◌<◌, ◌≤◌, length, take}
use Rattle.ent_group.specs.declared.members.TheConstants.{MOST_MEMBERS}
use Rattle.ent_meetings.specs.Gathering.{Grows}
use Rattle.ent_meetings.specs.Settling.{GoesPast}
use Rattle.ent_meetings.proofs.widening.Gathering.let_in_all.Given as goal

abbrev pub invariant-loop-offer : goal.invariant-loop-offer
invariant-loop-offer l = record {
  grows : Grows l.index l.fn.self l.self;
  fewer : l.looks ≤ l.fn.looks;
  past : 0 < l.looks → length l.self.tickets.items < MOST_MEMBERS
      → GoesPast l.index l.fn.self.tickets.items l.self.tickets.items (take l.offer-index l.party.offers);
}
