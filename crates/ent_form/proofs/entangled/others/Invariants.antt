use Rattle.std.proofs.Common.{◌≡◌, ◌≤◌, [], length, map, drop}
use Rattle.ent_form.specs.Bindings.{bound_in}
use Rattle.ent_form.specs.Entangled.{others_from}
use Rattle.ent_form.proofs.entangled.others.Given as goal

-- behind those before, the conditions that are left give what all of them give
abbrev pub invariant-loop-condition : goal.invariant-loop-condition
invariant-loop-condition l = record {
  rest : others_from (map (λ name. name.now) l.names) (bound_in l.kinds) (bound_in l.bindings) l.posts l.tests
      (drop l.condition-index l.condition-items) ≡ others_from (map (λ name. name.now) l.names) (bound_in l.kinds)
      (bound_in l.bindings) [] [] l.condition-items;
  posts : length l.posts ≤ l.condition-index;
  tests : length l.tests ≤ l.condition-index;
}
