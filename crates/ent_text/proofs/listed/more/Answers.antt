use Rattle.std.proofs.Common.{arith}
use Rattle.ent_text.proofs.Rows.{begins_left, on_close, on_end, on_refusal, on_value, divided_shorter}
use Rattle.ent_text.proofs.listed.more.Goals as goal

pub loop-rest-init : goal.loop-rest-init
loop-rest-init c = begins_left c.args.first c.new-values.result.items _ c.args.bytes.now c.new-values.ensures.items
    c.in_ok-push.ensures.items

pub returns-then-rest-eq41 : goal.returns-then-rest-eq41
returns-then-rest-eq41 c =
    on_close c.loop-rest.values.items c.loop-rest.rest.now c.tail.result.now _ (omega arith) c.if-rest-eq41.true
    c.tail.ensures c.loop-rest.invariant

pub loop-rest-preserved : goal.loop-rest-preserved
loop-rest-preserved c =
    on_value c.loop-rest.values.items _ c.loop-rest.rest.now c.in-Ok.next.now c.in-Ok.value _ (omega arith)
    c.if-rest-eq41.false c.in-Ok.ensures c.in_ok-push-in-Ok.ensures.items c.loop-rest.invariant

pub returns-in-Err : goal.returns-in-Err
returns-in-Err c =
    on_refusal c.in-Err.refusal c.loop-rest.values.items c.loop-rest.rest.now _ (omega arith) c.if-rest-eq41.false
    c.in-Err.ensures c.loop-rest.invariant

pub loop-rest-smaller : goal.loop-rest-smaller
loop-rest-smaller c = divided_shorter c.loop-rest.rest.now c.in-Ok.next.now c.in-Ok.value c.in-Ok.ensures

pub returns : goal.returns
returns c =
    on_end c.loop-rest.values.items c.loop-rest.rest.now _ (λ some. omega (arith, c.loop-rest-test.false))
    c.loop-rest.invariant
