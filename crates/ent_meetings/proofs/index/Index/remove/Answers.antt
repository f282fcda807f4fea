use Rattle.std.proofs.Common.{◌<◌, ◌^◌, sym}
use Rattle.std.specs.BTreeMap.{is_at}
use Rattle.std.specs.Ordering.{nat_cmp}
use Rattle.std.proofs.lemmas.Map.Views.{All-map-remove_entry}
use Rattle.ent_meetings.proofs.Indexing.{posted_rest}
use Rattle.ent_meetings.proofs.index.Index.remove.Goals as goal

pub invariant_of-self-2 : goal.invariant_of-self-2
invariant_of-self-2 c =
    let before = c.self.inside.parties.entries in
    let after = c.remove.new.self.entries in
    let present = sym c.in_ok-party.ensures.value in
    let at = c.in_ok-party.ensures.updates.0 in
    record {
      by_offers = posted_rest (λ party. party.offers) before after c.self.inside.offers c.unpost_party.new.offers
          c.args.ticket c.in_ok-party.party present at c.self.invariant.by_offers c.unpost_party.ensures.offers;
      by_demands = posted_rest (λ party. party.demands) before after c.self.inside.demands c.unpost_party.new.demands
          c.args.ticket c.in_ok-party.party present at c.self.invariant.by_demands c.unpost_party.ensures.demands;
      tickets = rw c.in_ok-party.ensures.entries (All-map-remove_entry (is_at (nat_cmp c.args.ticket)) (λ e. e.0)
          (λ ticket. ticket < 2 ^ 64) before c.self.invariant.tickets);
    }
