use Rattle.std.proofs.Common.{◌≡◌, ◌≤◌, [], length, map, drop}
use Rattle.ent_form.specs.Bindings.{bound_in}
use Rattle.ent_form.specs.Entangled.{memberships_from}
use Rattle.ent_form.proofs.membership.memberships.Given as goal

-- behind those before, the conditions that are left give what all of them give
abbrev pub invariant-loop-condition : goal.invariant-loop-condition
invariant-loop-condition l = record {
  rest : memberships_from l.catalogue.tables (bound_in l.bindings) (map (λ name. name.now) l.names) l.memberships
      (bound_in l.kinds) (drop l.condition-index l.condition-items)
      ≡ memberships_from l.catalogue.tables (bound_in l.bindings) (map (λ name. name.now) l.names) []
      (bound_in l.fn.kinds) l.condition-items;
  count : length l.memberships ≤ l.condition-index;
}
