use Rattle.std.proofs.Common.{◌≡◌, drop}
use Rattle.ent_form.specs.Catalogue.{column_from}
use Rattle.ent_form.proofs.catalogue.TableSchema.column_named.Given as goal

-- a column of this name is looked for among the rest
abbrev pub invariant-loop-number : goal.invariant-loop-number
invariant-loop-number l = column_from l.number (drop l.number l.self.columns) l.name
    ≡ column_from 0 l.self.columns l.name
