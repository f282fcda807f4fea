use Rattle.std.proofs.Common.{◌≡◌, ◌++◌, drop}
use Rattle.std.specs.List.{flat_map}
use Rattle.ent_semantics.specs.Database.{nothing_bound}
use Rattle.ent_meetings.specs.Bindings.{known_of}
use Rattle.ent_meetings.specs.Party.{text_views, view_demands, view_offers}
use Rattle.ent_meetings.proofs.party.Party.of.Given as goal

-- what was found so far, and what the statements to come offer and demand, is that of the whole script
abbrev pub invariant-loop-statement : goal.invariant-loop-statement
invariant-loop-statement l = record {
  offers : l.party.offers
      ++ flat_map view_offers (text_views (known_of l.known) (drop l.statement-index l.statement-items))
      ≡ flat_map view_offers (text_views nothing_bound l.fn.script.statements);
  demands : l.party.demands
      ++ flat_map view_demands (text_views (known_of l.known) (drop l.statement-index l.statement-items))
      ≡ flat_map view_demands (text_views nothing_bound l.fn.script.statements);
}
