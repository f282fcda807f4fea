-- The tables of an opening.
use Rattle.std.proofs.Common.{◌≡◌, List, [], ◌∷◌, map, refl, sym}
use Rattle.std.proofs.lemmas.Simd.{map-map}
use Rattle.ent_tree.specs.declared.declaration.Create.{Create}
use Rattle.ent_tree.specs.declared.declaration.Opening.{Opening}
use Rattle.ent_semantics.specs.Database.{opening_database}
use Rattle.ent_form.specs.declared.catalogue.ColumnSchema.{ColumnSchema}
use Rattle.ent_form.specs.Catalogue.{column_schema, schemas_of}
use Rattle.ent_form.specs.TableKinds.{column_kinds}
use Rattle.ent_form.specs.Opened.{opening_tables}
use Rattle.ent_protocol.specs.Reached.{table_names}
use Rattle.ent_tables.specs.Stored.{kinds_declared}

-- they stand under their names
pub tables_opened : (opening : Opening) → opening_tables opening ≡ map (opening_database opening) (table_names opening)
tables_opened opening = sym (map-map (opening_database opening) (λ (create : Create). create.name.name) opening.tables)

-- in the kinds that are declared
pub kinds_opened : (creates : List Create) → map column_kinds (schemas_of creates) ≡ kinds_declared creates
kinds_opened [] = refl
kinds_opened (create ∷ creates) =
    let first = map-map (λ (column : ColumnSchema). column.kind) column_schema create.columns in
    let rest = kinds_opened creates in
    λ i. first i ∷ rest i
