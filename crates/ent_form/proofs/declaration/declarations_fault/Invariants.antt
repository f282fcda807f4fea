use Rattle.std.proofs.Common.{◌≡◌, [], map, take, drop}
use Rattle.ent_form.specs.OpeningFault.{declarations_fault}
use Rattle.ent_form.proofs.declaration.declarations_fault.Given as goal

-- the rest of the tables, after the names of those before, have the fault of all
abbrev pub invariant-loop-number : goal.invariant-loop-number
invariant-loop-number l = declarations_fault (map (λ table. table.name.name) (take l.number l.tables))
    (drop l.number l.tables) ≡ declarations_fault [] l.tables
