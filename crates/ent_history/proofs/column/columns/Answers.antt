use Rattle.std.proofs.Common.{◌∙◌, sym, arith}
use Rattle.ent_history.specs.Openings.{columns_at}
use Rattle.ent_history.proofs.Columns.{left_first, left_end, left_fault, left_one}
use Rattle.ent_history.proofs.column.columns.Goals as goal

pub loop-alloc-init : goal.loop-alloc-init
loop-alloc-init c =
    left_first c.new-columns.result c.push.new.self c.args.bytes.now c.in_ok-first.next.now c.in_ok-first.first
    c.in_ok-first.ensures c.new-columns.ensures c.in_ok-push.ensures.ok

pub returns-then-first_byte-ne44 : goal.returns-then-first_byte-ne44
returns-then-first_byte-ne44 c =
    left_end c.loop-alloc.columns c.loop-alloc.rest.now (columns_at c.args.bytes.now)
    (λ room e. c.if-first_byte-ne44.true (c.first_byte.ensures ∙ e)) c.loop-alloc.invariant

pub loop-alloc-preserved : goal.loop-alloc-preserved
loop-alloc-preserved c =
    left_one c.loop-alloc.columns _ c.loop-alloc.rest.now c.in-Ok.next.now c.in-Ok.column
    (columns_at c.args.bytes.now) (omega (arith, c.len.ensures.len, c.loop-alloc-test.true))
    (sym c.first_byte.ensures ∙ c.if-first_byte-ne44.false) c.in-Ok.ensures c.in_ok-push-in-Ok.ensures.ok
    c.loop-alloc.invariant

pub returns-in-Err : goal.returns-in-Err
returns-in-Err c =
    left_fault c.in-Err.refusal c.loop-alloc.columns c.loop-alloc.rest.now (columns_at c.args.bytes.now)
    (omega (arith, c.len.ensures.len, c.loop-alloc-test.true))
    (sym c.first_byte.ensures ∙ c.if-first_byte-ne44.false) c.in-Err.ensures c.loop-alloc.invariant

pub returns : goal.returns
returns c =
    left_end c.loop-alloc.columns c.loop-alloc.rest.now (columns_at c.args.bytes.now)
    (λ room e. absurd (omega (arith, c.len.ensures.len, c.loop-alloc-test.false, room))) c.loop-alloc.invariant
