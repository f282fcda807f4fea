use Rattle.std.proofs.Common.{◌≡◌, [], map, take, drop}
use Rattle.ent_form.specs.OpeningFault.{repeated}
use Rattle.ent_form.proofs.declaration.repeated_column.Given as goal

-- the rest of the columns, after the names of those before, have the fault of all
abbrev pub invariant-loop-number : goal.invariant-loop-number
invariant-loop-number l = repeated (map (λ column. column.name.name) (take l.number l.columns))
    (map (λ column. column.name) (drop l.number l.columns)) ≡ repeated [] (map (λ column. column.name) l.columns)
