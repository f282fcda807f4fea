use Rattle.std.proofs.Common.{arith}
use Rattle.ent_value.specs.declared.value.Kind.TheVariants.{Int}
use Rattle.ent_page.proofs.Cells.{last_cell, inner_cell}
use Rattle.ent_page.proofs.stored_row.cell_bytes.Goals as goal

pub returns-then-index-kinds : goal.returns-then-index-kinds
returns-then-index-kinds c = λ row v same is at.
    last_cell c.args.kinds.now c.args.key.now c.args.index c.past_cells-left.result.now c.past_cells-left.ensures row v
    same is at (omega arith)

pub returns : goal.returns
returns c = λ row v same is at.
    inner_cell c.args.kinds.now c.args.key.now c.args.index c.past_cells-left.result.now c.past_cells-left.ensures row v
    same is at c.split_value.result.0.now c.split_value.result.1.now Int c.split_value.ensures.whole
    c.split_value.ensures.rest
