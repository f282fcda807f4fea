use Rattle.std.proofs.Common.{◌<◌, ◌^◌}
use Rattle.std.specs.Ordering.{nat_cmp}
use Rattle.std.proofs.lemmas.Map.Views.{All-keys-insert_entry}
use Rattle.ent_meetings.proofs.Indexing.{posted_new}
use Rattle.ent_meetings.proofs.index.Index.insert.Goals as goal

pub invariant_of-self-in-Ok-insert-2 : goal.invariant_of-self-in-Ok-insert-2
invariant_of-self-in-Ok-insert-2 c =
    let before = c.self.inside.parties.entries in
    let after = c.insert.new.self.entries in
    let absent = rw (← c.self.view_is) at c.requires in
    let at = c.in-Ok-insert.ensures.updates.0 in
    record {
      by_offers = posted_new (λ party. party.offers) before after c.self.inside.offers c.post_party.new.offers
          c.args.ticket c.args.party absent at c.self.invariant.by_offers c.in-Ok.ensures.by_offers;
      by_demands = posted_new (λ party. party.demands) before after c.self.inside.demands c.post_party.new.demands
          c.args.ticket c.args.party absent at c.self.invariant.by_demands c.in-Ok.ensures.by_demands;
      tickets = rw c.in-Ok-insert.ensures.entries (All-keys-insert_entry nat_cmp c.args.ticket c.args.party
          (λ ticket. ticket < 2 ^ 64) before c.self.invariant.tickets c.ranges.ticket.fits);
    }
