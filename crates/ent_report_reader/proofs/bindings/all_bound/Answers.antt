use Rattle.std.proofs.Common.{◌∙◌, sym, arith}
use Rattle.ent_history.proofs.Listing.{left_first, left_end, left_fault, left_one}
use Rattle.ent_report_reader.specs.Bindings.{all_bound_at, bound_at}
use Rattle.ent_report_reader.proofs.BindingLines.{bound_shorter}
use Rattle.ent_report_reader.proofs.bindings.all_bound.Goals as goal

pub loop-alloc-init : goal.loop-alloc-init
unfolding all_bound_at
loop-alloc-init c = left_first 32 bound_at c.new-all.result c.args.bytes.now c.new-all.ensures

pub loop-alloc-smaller : goal.loop-alloc-smaller
loop-alloc-smaller c = bound_shorter c.loop-alloc.rest.now c.in-Ok.next.now c.in-Ok.bound c.in-Ok.ensures

pub loop-alloc-preserved : goal.loop-alloc-preserved
loop-alloc-preserved c =
    left_one 32 bound_at c.loop-alloc.all _ c.loop-alloc.rest.now c.in-Ok.next.now c.in-Ok.bound
    (all_bound_at c.args.bytes.now) (sym c.first_byte.ensures ∙ c.loop-alloc-test.true) c.in-Ok.ensures
    (bound_shorter c.loop-alloc.rest.now c.in-Ok.next.now c.in-Ok.bound c.in-Ok.ensures) c.in_ok-push-in-Ok.ensures.ok
    c.loop-alloc.invariant

pub returns-in-Err : goal.returns-in-Err
returns-in-Err c =
    left_fault 32 bound_at c.in-Err.refusal c.loop-alloc.all c.loop-alloc.rest.now (all_bound_at c.args.bytes.now)
    (omega arith) (sym c.first_byte.ensures ∙ c.loop-alloc-test.true) c.in-Err.ensures c.loop-alloc.invariant

pub returns : goal.returns
returns c =
    left_end 32 bound_at c.loop-alloc.all c.loop-alloc.rest.now (all_bound_at c.args.bytes.now)
    (λ e. c.loop-alloc-test.false (c.first_byte.ensures ∙ e)) c.loop-alloc.invariant
