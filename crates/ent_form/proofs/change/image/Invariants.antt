use Rattle.std.proofs.Common.{◌≡◌, [], length, map, drop}
use Rattle.ent_form.specs.Bindings.{bound_in}
use Rattle.ent_form.specs.Ordinary.{assignments_from, own_from}
use Rattle.ent_form.specs.Seen.{scope_of}
use Rattle.ent_form.proofs.change.image.Given as goal

-- behind those before, the assignments that are left give what all of them give
abbrev pub invariant-loop-assignment : goal.invariant-loop-assignment
invariant-loop-assignment l = record {
  rest : assignments_from (scope_of l.sources) (bound_in l.bindings) l.table.columns
      (map (λ name. name.now) l.earlier.items) l.image.items (drop l.assignment-index l.assignments)
      ≡ assignments_from (scope_of l.sources) (bound_in l.bindings) l.table.columns [] (own_from 0 l.table.columns)
      l.assignments;
  size : length l.image.items ≡ length l.table.columns;
}
