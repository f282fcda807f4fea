use Rattle.std.proofs.Common.{◌≤◌, length, min, sym, ◌∙◌, arith}
use Rattle.std.specs.Ordering.{nat_cmp}
use Rattle.ent_feed.proofs.Cells.{cell_decides, cell_ties, lengths_decide}
use Rattle.ent_feed.proofs.difference.compare.Goals as goal

pub returns-in_default : goal.returns-in_default
returns-in_default c =
    sym (c.loop-index.invariant
    ∙ cell_decides c.args.left.now c.args.right.now c.loop-index.index c.cell.result c.cell-in-loop-index.result
    c.cell.ensures c.cell-in-loop-index.ensures c.cmp.result c.cmp.ensures c.in_default.not-Equal)

pub loop-index-preserved : goal.loop-index-preserved
loop-index-preserved c =
    c.loop-index.invariant
    ∙ cell_ties c.args.left.now c.args.right.now c.loop-index.index c.cell.result c.cell-in-loop-index.result
    c.cell.ensures c.cell-in-loop-index.ensures (sym c.in-Equal.is ∙ c.cmp.ensures)

pub returns : goal.returns
returns c =
    let left = c.args.left.now in
    let right = c.args.right.now in
    let within : c.loop-index.index ≤ length left = omega arith in
    let within_too : c.loop-index.index ≤ length right = omega arith in
    let past : min (length left) (length right) ≤ c.loop-index.index = omega arith in
    c.cmp-2.ensures ∙ (λ i. nat_cmp (c.len-3.ensures i) (c.len-4.ensures i))
    ∙ sym (c.loop-index.invariant ∙ lengths_decide left right c.loop-index.index within within_too past)
