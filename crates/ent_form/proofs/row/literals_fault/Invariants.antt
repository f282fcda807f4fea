use Rattle.std.proofs.Common.{◌≡◌}
use Rattle.std.specs.Slice.Iter.{iter_rest}
use Rattle.std.specs.Iterator.Adapters.{zip_first, zip_second}
use Rattle.ent_form.specs.OpeningFault.{literals_fault}
use Rattle.ent_form.proofs.row.literals_fault.Given as goal

-- the columns and the literals that are left have the fault of all
abbrev pub invariant-loop-column : goal.invariant-loop-column
invariant-loop-column l =
    (goal.iterator-loop-column).can_next l.column-iterator ×
    (goal.iterator-loop-column).is_finite l.column-iterator ×
    (literals_fault (iter_rest (zip_first l.column-iterator)) (iter_rest (zip_second l.column-iterator))
    ≡ literals_fault l.columns l.literals)
