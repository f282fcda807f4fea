-- The rows of an opening's tables, and of tables in order, have values with the property.
use Rattle.std.proofs.Common.{List, map}
use Rattle.std.specs.List.{AllByRecursion, filter}
use Rattle.ent_value.specs.declared.value.Value.{Value}
use Rattle.ent_tree.specs.declared.declaration.OpeningRow.{OpeningRow}
use Rattle.ent_semantics.specs.Database.{row_of, same_name}
use Rattle.ent_lists.specs.Elements.{all_filtered, all_map, in_contains, to_all}
use Rattle.ent_semantics.proofs.EachRow.{each_listed, to_ascending}
use Rattle.ent_program_laws.specs.Kept.{OpeningsKeep, TablesShow}

module _ (P : Value → Type 0) where
  -- a row has such values
  abbrev Has : List Value → Type 0
  Has row = AllByRecursion P row

  pub openings_keep : OpeningsKeep P
  openings_keep opening each name =
      let names_it = λ (row : OpeningRow). same_name row.table.name name in
      let IsSuch : OpeningRow → Type 0 = λ row. Has (row_of row) in
      each_listed Has (map row_of (filter names_it opening.rows))
      (all_map row_of Has (filter names_it opening.rows)
      (all_filtered IsSuch names_it opening.rows
      (to_all IsSuch opening.rows (λ row at. each row (in_contains opening.rows row at)))))

  pub tables_show : TablesShow P
  tables_show database name holds = to_ascending Has (database name) (holds name)
