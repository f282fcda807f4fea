use Rattle.std.proofs.Common.{◌≡◌, All}
use Rattle.ent_value.specs.Value.{kinds_of}
use Rattle.ent_table_scenarios.proofs.table.number_rows.Given as goal

abbrev pub invariant-loop-number : goal.invariant-loop-number
invariant-loop-number l = All (λ row. kinds_of row ≡ l.fn.kinds) l.rows.items
