use Rattle.std.proofs.Common.{◌≡◌, [], length, drop}
use Rattle.ent_form.specs.Bindings.{bound_in}
use Rattle.ent_form.specs.Lookup.{operands_in}
use Rattle.ent_form.specs.Ordinary.{tests_from}
use Rattle.ent_form.specs.Seen.{scope_of}
use Rattle.ent_form.proofs.select.tests.Given as goal

-- behind those before, the tests that are left give what all of them give
abbrev pub invariant-loop-one : goal.invariant-loop-one
invariant-loop-one l = record {
  rest : tests_from (operands_in (scope_of l.sources) (bound_in l.bindings)) l.forms (drop l.one-index l.one-items)
      ≡ tests_from (operands_in (scope_of l.sources) (bound_in l.bindings)) [] l.one-items;
  count : length l.forms ≡ l.one-index;
}
