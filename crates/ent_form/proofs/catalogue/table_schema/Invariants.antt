use Rattle.std.proofs.Common.{◌≡◌, map, take}
use Rattle.ent_form.specs.Catalogue.{column_schema}
use Rattle.ent_form.proofs.catalogue.table_schema.Given as goal

abbrev pub invariant-loop-column : goal.invariant-loop-column
invariant-loop-column l = l.columns ≡ map column_schema (take l.column-index l.column-items)
