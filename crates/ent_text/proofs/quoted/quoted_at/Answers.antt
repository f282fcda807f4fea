use Rattle.std.proofs.Common.{◌∙◌, sym, refl, arith}
use Rattle.ent_text.proofs.Reading.{left_length, on_other, on_doubled}
use Rattle.ent_text.proofs.quoted.quoted_at.Goals as goal

pub loop-rest-preserved : goal.loop-rest-preserved
loop-rest-preserved c = record {
  place = omega (
    arith,
    left_length 1 c.loop-rest.rest.now c.tail-rest-else-byte-eq39.result.now
        (omega arith) c.tail-rest-else-byte-eq39.ensures,
  );
  whole = on_other c.args.quote c.loop-rest.at _ _ _ _ _ _ (omega arith) refl c.if-byte-eq39.false
      (sym c.is_ascii_control.ensures.value ∙ c.if-is_ascii_control.false)
      c.in_ok-push-2.ensures.items c.tail-rest-else-byte-eq39.ensures c.loop-rest.invariant.whole;
}

pub loop-rest-preserved-then-byte-eq39 : goal.loop-rest-preserved-then-byte-eq39
loop-rest-preserved-then-byte-eq39 c = record {
  place = omega (arith, left_length 2 c.loop-rest.rest.now c.tail-rest.result.now (omega arith) c.tail-rest.ensures);
  whole = on_doubled c.args.quote c.loop-rest.at _ _ _ _ _ (omega arith) c.if-byte-eq39.true c.if-rest-ne39.false
      c.in_ok-push.ensures.items c.tail-rest.ensures c.loop-rest.invariant.whole;
}
