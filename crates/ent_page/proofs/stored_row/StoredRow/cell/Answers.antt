use Rattle.std.proofs.Common.{ap, sym, ◌∙◌}
use Rattle.std.specs.Prelude.{Some, slice_get}
use Rattle.ent_value.specs.declared.value.Kind.TheVariants.{Int}
use Rattle.ent_page.proofs.Cells.{row_cell, row_value}
use Rattle.ent_page.proofs.stored_row.StoredRow.cell.Goals as goal

pub new-requires : goal.new-requires
new-requires c =
    row_cell c.self.inside.kinds.now c.self.inside.key.now c.self.invariant c.args.index Int
    (rw (sym c.self.view_is) at c.requires) c.cell_bytes-bytes.result.now c.cell_bytes-bytes.ensures

pub returns : goal.returns
returns c =
    ap (λ row. slice_get row c.args.index) (sym c.self.view_is)
    ∙ row_value c.self.inside.kinds.now c.self.inside.key.now c.self.invariant c.args.index Int
    (rw (sym c.self.view_is) at c.requires) c.cell_bytes-bytes.result.now c.cell_bytes-bytes.ensures
    ∙ ap (λ v. Some v) (sym c.new.ensures)
