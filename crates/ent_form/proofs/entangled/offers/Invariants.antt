use Rattle.std.proofs.Common.{◌≡◌, ◌≤◌, length, map, drop}
use Rattle.ent_form.specs.Bindings.{bound_in}
use Rattle.ent_form.specs.Entangled.{no_offer, offer_from}
use Rattle.ent_form.specs.Seen.{offer_of}
use Rattle.ent_form.proofs.entangled.offers.Given as goal

-- behind those before, the items that are left give what all of them give
abbrev pub invariant-loop-one : goal.invariant-loop-one
invariant-loop-one l = record {
  rest : offer_from (map (λ name. name.now) l.names) (bound_in l.kinds) (bound_in l.bindings) (offer_of l.offered)
      (drop l.one-index l.one-items) ≡ offer_from (map (λ name. name.now) l.names) (bound_in l.kinds)
      (bound_in l.bindings) no_offer l.one-items;
  terms : length l.offered.terms ≡ l.one-index;
  binds : length l.offered.binds ≤ l.one-index;
}
