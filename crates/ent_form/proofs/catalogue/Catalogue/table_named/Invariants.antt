use Rattle.std.proofs.Common.{◌≡◌, drop}
use Rattle.ent_form.specs.Catalogue.{table_from}
use Rattle.ent_form.proofs.catalogue.Catalogue.table_named.Given as goal

-- a table of this name is looked for among the rest
abbrev pub invariant-loop-number : goal.invariant-loop-number
invariant-loop-number l = table_from l.number (drop l.number l.self.tables) l.name ≡ table_from 0 l.self.tables l.name
