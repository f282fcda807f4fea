use Rattle.std.proofs.Common.{◌≡◌, drop}
use Rattle.ent_form.specs.OpeningFault.{opening_row_fault, first_of}
use Rattle.ent_form.proofs.row.rows_fault.Given as goal

-- the rows that are left have the fault of all
abbrev pub invariant-loop-row : goal.invariant-loop-row
invariant-loop-row l = first_of (opening_row_fault l.catalogue.tables) (drop l.row-index l.rows)
    ≡ first_of (opening_row_fault l.catalogue.tables) l.rows
