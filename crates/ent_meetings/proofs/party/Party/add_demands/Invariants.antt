use Rattle.std.proofs.Common.{◌≡◌, ◌++◌, take}
use Rattle.std.specs.List.{flat_map}
use Rattle.ent_meetings.specs.Bindings.{known_of}
use Rattle.ent_meetings.specs.Party.{condition_demands}
use Rattle.ent_meetings.proofs.party.Party.add_demands.Given as goal

-- the postconditions so far are demanded
abbrev pub invariant-loop-condition : goal.invariant-loop-condition
invariant-loop-condition l = record {
  demands : l.self.demands ≡ l.fn.self.demands
      ++ flat_map (condition_demands (known_of l.fn.known)) (take l.condition-index l.condition-items);
  offers : l.self.offers ≡ l.fn.self.offers;
}
