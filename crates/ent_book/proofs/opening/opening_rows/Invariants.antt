use Rattle.std.proofs.Common.{◌≡◌, map, take}
use Rattle.std.specs.List.{filter}
use Rattle.ent_semantics.specs.Database.{row_of, same_name}
use Rattle.ent_book.proofs.opening.opening_rows.Given as goal

-- the rows of that name so far
abbrev pub invariant-loop-row : goal.invariant-loop-row
invariant-loop-row l =
    l.rows.items ≡ map row_of (filter (λ row. same_name row.table.name l.name) (take l.row-index l.row-items))
