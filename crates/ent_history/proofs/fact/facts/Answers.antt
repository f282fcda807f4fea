use Rattle.std.proofs.Common.{◌∙◌, sym, arith}
use Rattle.ent_history.specs.Heads.{fact_at, facts_at}
use Rattle.ent_history.proofs.HeadLines.{fact_shorter}
use Rattle.ent_history.proofs.Listing.{left_first, left_end, left_fault, left_one}
use Rattle.ent_history.proofs.fact.facts.Goals as goal

pub loop-alloc-init : goal.loop-alloc-init
unfolding facts_at
loop-alloc-init c = left_first 32 fact_at c.new-facts.result c.args.bytes.now c.new-facts.ensures

pub loop-alloc-smaller : goal.loop-alloc-smaller
loop-alloc-smaller c = fact_shorter c.loop-alloc.rest.now c.in-Ok.next.now c.in-Ok.fact c.in-Ok.ensures

pub loop-alloc-preserved : goal.loop-alloc-preserved
loop-alloc-preserved c =
    left_one 32 fact_at c.loop-alloc.facts _ c.loop-alloc.rest.now c.in-Ok.next.now c.in-Ok.fact
    (facts_at c.args.bytes.now) (sym c.first_byte.ensures ∙ c.loop-alloc-test.true) c.in-Ok.ensures
    (fact_shorter c.loop-alloc.rest.now c.in-Ok.next.now c.in-Ok.fact c.in-Ok.ensures) c.in_ok-push-in-Ok.ensures.ok
    c.loop-alloc.invariant

pub returns-in-Err : goal.returns-in-Err
returns-in-Err c =
    left_fault 32 fact_at c.in-Err.refusal c.loop-alloc.facts c.loop-alloc.rest.now (facts_at c.args.bytes.now)
    (omega arith) (sym c.first_byte.ensures ∙ c.loop-alloc-test.true) c.in-Err.ensures c.loop-alloc.invariant

pub returns : goal.returns
returns c =
    left_end 32 fact_at c.loop-alloc.facts c.loop-alloc.rest.now (facts_at c.args.bytes.now)
    (λ e. c.loop-alloc-test.false (c.first_byte.ensures ∙ e)) c.loop-alloc.invariant
