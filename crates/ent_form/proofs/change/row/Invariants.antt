use Rattle.std.proofs.Common.{◌≡◌, ◌+◌, [], length}
use Rattle.std.specs.Slice.Iter.{iter_rest}
use Rattle.std.specs.Iterator.Adapters.{zip_first, zip_second}
use Rattle.ent_form.specs.Bindings.{bound_in}
use Rattle.ent_form.specs.Ordinary.{row_from}
use Rattle.ent_form.proofs.change.row.Given as goal

-- behind those before, the columns and the values that are left give what all of them give
abbrev pub invariant-loop-column : goal.invariant-loop-column
invariant-loop-column l =
    (goal.iterator-loop-column).can_next l.column-iterator ×
    (goal.iterator-loop-column).is_finite l.column-iterator ×
    (row_from (bound_in l.bindings) l.row (iter_rest (zip_first l.column-iterator))
    (iter_rest (zip_second l.column-iterator)) ≡ row_from (bound_in l.bindings) [] l.columns l.values) ×
    (length l.row + length (iter_rest (zip_second l.column-iterator)) ≡ length l.values)
