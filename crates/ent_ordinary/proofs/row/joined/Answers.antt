use Rattle.std.proofs.Common.{[], ◌∷◌, ◌++◌, ap, ◌∙◌}
use Rattle.ent_ordinary.proofs.Wanted.{joined_more}
use Rattle.ent_ordinary.proofs.row.joined.Goals as goal

pub loop-column-preserved : goal.loop-column-preserved
loop-column-preserved c =
    let values = c.loop-column.values.items in
    joined_more c.args.front.now c.args.row.now values c.push-in-loop-column.new.self.items c.loop-column.column
    c.cell.result c.cell.ensures c.loop-column.invariant
    (c.in_ok-push-2.ensures.items ∙ ap (λ value. values ++ value ∷ []) c.in_ok-to_value.ensures)
