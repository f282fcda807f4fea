use Rattle.std.proofs.Common.{◌≡◌, map, take}
use Rattle.std.specs.List.{filter}
use Rattle.ent_semantics.specs.Database.{same_name, row_of}
use Rattle.ent_form.proofs.row.opening_rows.Given as goal

abbrev pub invariant-loop-row : goal.invariant-loop-row
invariant-loop-row l =
    l.rows.items ≡ map row_of (filter (λ row. same_name row.table.name l.name) (take l.row-index l.row-items))
