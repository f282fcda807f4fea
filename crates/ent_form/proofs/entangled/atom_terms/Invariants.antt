use Rattle.std.proofs.Common.{◌≡◌, [], length, map, drop}
use Rattle.ent_form.specs.Bindings.{bound_in}
use Rattle.ent_form.specs.Entangled.{atom_from}
use Rattle.ent_form.proofs.entangled.atom_terms.Given as goal

-- behind those before, the terms that are left give what all of them give
abbrev pub invariant-loop-one : goal.invariant-loop-one
invariant-loop-one l = record {
  rest : atom_from (map (λ name. name.now) l.names) (bound_in l.kinds) (bound_in l.bindings) l.forms
      (drop l.one-index l.one-items) ≡ atom_from (map (λ name. name.now) l.names) (bound_in l.kinds)
      (bound_in l.bindings) [] l.one-items;
  count : length l.forms ≡ l.one-index;
}
