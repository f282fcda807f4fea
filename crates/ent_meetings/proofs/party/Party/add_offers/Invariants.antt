use Rattle.std.proofs.Common.{◌≡◌, ◌++◌, map, take}
use Rattle.ent_meetings.specs.Bindings.{known_of}
use Rattle.ent_meetings.specs.Party.{offered_in}
use Rattle.ent_meetings.proofs.party.Party.add_offers.Given as goal

-- the select list is offered in the relations so far
abbrev pub invariant-loop-relation : goal.invariant-loop-relation
invariant-loop-relation l = record {
  offers : l.self.offers ≡ l.fn.self.offers
      ++ map (offered_in (record { known = known_of l.fn.known; entangled = l.fn.asked }))
      (take l.relation-index l.relation-items);
  demands : l.self.demands ≡ l.fn.self.demands;
}
