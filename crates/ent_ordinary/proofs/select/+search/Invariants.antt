use Rattle.std.proofs.Common.{◌≡◌, ◌++◌, length}
use Rattle.std.specs.Prelude.{map}
use Rattle.std.specs.List.{flat_map}
use Rattle.ent_rel.specs.Numbered.{relation_of}
use Rattle.ent_ordinary.specs.Combined.{combined, shown_of}
use Rattle.ent_ordinary.specs.Tables.{rows_listed}
use Rattle.ent_ordinary.proofs.select.+search.Given as goal

abbrev pub decreases-search : goal.decreases-search
decreases-search l = length l.sources.now

-- what is shown of the rows so far, and what will be of those that are left
abbrev pub invariant-loop-row : goal.invariant-loop-row
invariant-loop-row l =
    l.found.items ++ shown_of l.select.items l.select.tests
    (flat_map (λ row. combined (l.front ++ row) (rows_listed (map relation_of l.more))) l.rows)
    ≡ l.fn.found.items ++ shown_of l.select.items l.select.tests
    (flat_map (λ row. combined (l.front ++ row) (rows_listed (map relation_of l.more))) l.initial.rows)

abbrev pub decreases-loop-row : goal.decreases-loop-row
decreases-loop-row l = length l.rows
