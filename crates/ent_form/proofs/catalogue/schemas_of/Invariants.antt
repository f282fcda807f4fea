use Rattle.std.proofs.Common.{◌≡◌, map, take}
use Rattle.ent_form.specs.Catalogue.{table_schema}
use Rattle.ent_form.proofs.catalogue.schemas_of.Given as goal

abbrev pub invariant-loop-create : goal.invariant-loop-create
invariant-loop-create l = l.schemas.items ≡ map table_schema (take l.create-index l.tables)
