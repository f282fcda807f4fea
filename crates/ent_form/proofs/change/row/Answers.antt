use Rattle.std.proofs.lemmas.Slice.Zip.{either_empty_from_Zip}
use Rattle.std.specs.Iterator.Adapters.{zip_first, zip_second}
use Rattle.std.specs.Slice.Iter.{iter_rest}
use Rattle.ent_form.specs.Bindings.{bound_in}
use Rattle.ent_form.proofs.Columns.{row_end}
use Rattle.ent_form.proofs.change.row.Goals as goal

pub returns : goal.returns
returns c =
    let left = c.loop-column.column-iterator in
    row_end (bound_in c.args.bindings.now) c.loop-column.row (iter_rest (zip_first left)) (iter_rest (zip_second left))
    _ (either_empty_from_Zip left c.next.new.self c.next.result c.in-None.is c.next.ensures.steps)
    c.loop-column.invariant.2
