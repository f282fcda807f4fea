use Rattle.std.proofs.Common.{◌≡◌, All}
use Rattle.ent_value.specs.Value.{kinds_of}
use Rattle.ent_scenario_files.proofs.words.rows_of.Given as goal

abbrev pub invariant-loop-word : goal.invariant-loop-word
invariant-loop-word l = All (λ row. kinds_of row ≡ l.fn.kinds) l.rows.items
