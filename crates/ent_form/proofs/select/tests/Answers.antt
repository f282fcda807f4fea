use Rattle.std.proofs.Common.{arith}
use Rattle.std.proofs.lemmas.Grind.{common_steps}
use Rattle.ent_form.specs.Bindings.{bound_in}
use Rattle.ent_form.specs.Lookup.{operands_in}
use Rattle.ent_form.specs.Ordinary.{tests_in}
use Rattle.ent_form.specs.Seen.{scope_of}
use Rattle.ent_form.proofs.Listed.{tests_refused, tests_passed}
use Rattle.ent_form.proofs.select.tests.Goals as goal

pub returns-in_err-test : goal.returns-in_err-test
unfolding tests_in
returns-in_err-test c =
    let lookup = operands_in (scope_of c.args.sources.now) (bound_in c.args.bindings.now) in
    let refused = tests_refused lookup c.loop-one.forms c.as_slice-one-items.result.now c.loop-one.one-index
    c.one-item.result _ c.in_err-test.field-0.0 c.loop-one-test.true c.one-item.is c.in_err-test.ensures
    c.loop-one.invariant.rest in
    grind (arith, common_steps)

pub loop-one-preserved : goal.loop-one-preserved
loop-one-preserved c =
    let lookup = operands_in (scope_of c.args.sources.now) (bound_in c.args.bindings.now) in
    record {
      rest = tests_passed lookup c.loop-one.forms c.push.new.self c.as_slice-one-items.result.now c.loop-one.one-index
          c.one-item.result c.in_ok-test.field-0 _ c.loop-one-test.true c.one-item.is c.in_ok-test.ensures
          c.in_ok-push.ensures.ok c.loop-one.invariant.rest;
      count = grind (arith, common_steps);
    }
