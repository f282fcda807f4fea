use Rattle.std.proofs.Common.{◌≡◌, All}
use Rattle.ent_value.specs.Value.{kinds_of}
use Rattle.ent_table_scenarios.proofs.opening.rows_of_kinds.Given as goal

abbrev pub invariant-loop-row : goal.invariant-loop-row
invariant-loop-row l = All (λ row. kinds_of row ≡ l.fn.kinds) l.checked.items
