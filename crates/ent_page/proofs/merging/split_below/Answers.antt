use Rattle.std.proofs.Common.{◌≡◌, true, false, sym, ◌∙◌, arith}
use Rattle.ent_page.proofs.Changes.{cut_here, below_next}
use Rattle.ent_page.proofs.merging.split_below.Goals as goal

pub returns-then-not-is_below : goal.returns-then-not-is_below
returns-then-not-is_below c =
    cut_here c.args.keys.now c.args.bound.now c.index-keys-at.result c.loop-at.at c.split_at.result.0.now
    c.split_at.result.1.now c.requires (omega arith) c.index-keys-at.is c.loop-at.invariant
    (λ less. let f : false ≡ true = sym c.if-not-is_below.true ∙ c.is_below.ensures.1 less in
    cc) c.split_at.ensures.front c.split_at.ensures.back

pub loop-at-preserved : goal.loop-at-preserved
loop-at-preserved c = below_next c.args.keys.now c.args.bound.now c.index-keys-at.result c.loop-at.at
    (omega arith) c.index-keys-at.is c.loop-at.invariant (c.is_below.ensures.0 c.if-not-is_below.false)
