use Rattle.std.proofs.Common.{◌≡◌, ◌<◌, map, length, arith, rules}
use Rattle.ent_meetings.specs.Known.{known_term}
use Rattle.ent_meetings.specs.Bindings.{known_of}
use Rattle.ent_meetings.proofs.Offered.{offered_more}
use Rattle.ent_meetings.proofs.party.Party.add_offers.Goals as goal

pub loop-relation-preserved : goal.loop-relation-preserved
loop-relation-preserved c =
    let low : c.loop-relation.relation-index < length c.as_slice-relation-items.result.now = omega arith in
    let terms : c.in_ok-terms.terms
    ≡ map (λ item. known_term (known_of c.args.known.now) item.term) c.args.asked.now.items = grind (rules) in
    record {
      offers = offered_more (record { known = known_of c.args.known.now; entangled = c.args.asked.now })
          c.as_slice-relation-items.result.now c.loop-relation.relation-index c.relation-item.result
          c.args.self.now.offers c.loop-relation.self.offers c.push.new.self
          c.in_ok-relation.relation c.in_ok-terms.terms low c.relation-item.is c.loop-relation.invariant.offers
          c.in_ok-relation.ensures terms c.in_ok-push.ensures.ok;
      demands = c.loop-relation.invariant.demands;
    }
