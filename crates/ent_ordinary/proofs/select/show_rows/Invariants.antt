use Rattle.std.proofs.Common.{◌≡◌, ◌++◌, map, length}
use Rattle.std.specs.List.{filter}
use Rattle.ent_ordinary.specs.Prepared.{prepared_meets}
use Rattle.ent_ordinary.specs.Worth.{worth_over}
use Rattle.ent_ordinary.proofs.select.show_rows.Given as goal

-- what is shown of the rows so far, and what will be of those that are left
abbrev pub invariant-loop-row : goal.invariant-loop-row
invariant-loop-row l =
    l.found.items ++ map (λ row. map (worth_over (l.front ++ row)) l.items) (filter (prepared_meets l.tests) l.rows)
    ≡ l.fn.found.items
    ++ map (λ row. map (worth_over (l.front ++ row)) l.items) (filter (prepared_meets l.tests) l.fn.rows)

abbrev pub decreases-loop-row : goal.decreases-loop-row
decreases-loop-row l = length l.rows
