use Rattle.std.proofs.Common.{◌∙◌, ap, arith, sym}
use Rattle.ent_text.specs.Left.{fault_among}
use Rattle.ent_text.proofs.Reading.{left_length}
use Rattle.ent_text.proofs.UpTo.{left_blank, left_nothing}
use Rattle.ent_text.proofs.FirstFault.{fault_past, fault_here}
use Rattle.ent_text.proofs.left.first_fault.Goals as goal

pub loop-rest-preserved : goal.loop-rest-preserved
loop-rest-preserved c = record {
  place = omega (arith, c.in-Ok.ensures.shorter);
  left = sym (fault_past c.loop-rest.at c.loop-rest.rest.now c.in-Ok.behind.now c.in-Ok.ensures.value.0
      c.loop-rest-test.true c.in-Ok.ensures.value.1) ∙ c.loop-rest.invariant.left;
}

pub loop-rest-preserved-then-is_blank : goal.loop-rest-preserved-then-is_blank
loop-rest-preserved-then-is_blank c = record {
  place = omega (arith, left_length 1 c.loop-rest.rest.now c.tail-rest.result.now (omega arith) c.tail-rest.ensures);
  left = sym (ap fault_among (left_blank c.loop-rest.at c.loop-rest.rest.now c.tail-rest.result.now
      c.loop-rest-test.true (sym c.is_blank.ensures ∙ c.if-is_blank.true) c.tail-rest.ensures))
      ∙ c.loop-rest.invariant.left;
}

pub returns-in-Err : goal.returns-in-Err
returns-in-Err c =
    sym (fault_here c.loop-rest.at c.loop-rest.rest.now c.in-Err.fault c.loop-rest-test.true c.in-Err.ensures.value)
    ∙ c.loop-rest.invariant.left

pub returns : goal.returns
returns c =
    sym (ap fault_among (left_nothing c.loop-rest.at c.loop-rest.rest.now (omega arith))) ∙ c.loop-rest.invariant.left
