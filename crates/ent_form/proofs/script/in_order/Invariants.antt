use Rattle.std.proofs.Common.{◌≡◌, [], length, drop}
use Rattle.ent_form.specs.Bindings.{bound_in}
use Rattle.ent_form.specs.Form.{statements_from}
use Rattle.ent_form.specs.Kinds.{none_bound}
use Rattle.ent_form.proofs.script.in_order.Given as goal

-- behind those before, the statements that are left give what all of them give
abbrev pub invariant-loop-one : goal.invariant-loop-one
invariant-loop-one l = record {
  rest : statements_from l.catalogue.tables (bound_in l.bindings) l.statements (drop l.one-index l.one-items)
      ≡ statements_from l.catalogue.tables none_bound [] l.one-items;
  count : length l.statements ≡ l.one-index;
}
