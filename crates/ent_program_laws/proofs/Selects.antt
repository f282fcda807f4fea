-- The rows of a SELECT's result hang on no place.
use Rattle.std.proofs.Common.{◌≡◌, List, map, refl, ap, ◌∙◌}
use Rattle.ent_value.specs.declared.value.Value.{Value}
use Rattle.ent_tree.specs.Places.{unplaced_operand, unplaced_source, unplaced_items, unplaced_tests, unplaced_select}
use Rattle.ent_tree.specs.declared.declaration.Create.{Create}
use Rattle.ent_tree.specs.declared.operand.Operand.{Operand}
use Rattle.ent_tree.specs.declared.select.Items.{Items}
use Rattle.ent_tree.specs.declared.select.Items.TheVariants as items
use Rattle.ent_tree.specs.declared.select.Select.{Select}
use Rattle.ent_semantics.specs.Database.{Database, Environment}
use Rattle.ent_semantics.specs.Selection.{meets, selection, item_row, source_rows, select_worth, select_rows}
use Rattle.ent_semantics.specs.Term.{SourceColumn, Worth, operand_value, source_columns}
use Rattle.ent_program_laws.specs.Unplaced.{unplaced_create}
use Rattle.ent_program_laws.proofs.Through.{map_through}
use Rattle.ent_program_laws.proofs.Terms.{source_columns_same, operand_same, meets_same}

items_same : (f g : Worth Operand) (row : List Value)
    → ((operand : Operand) → f row (unplaced_operand operand) ≡ g row operand)
    → (shown : Items) → item_row f (unplaced_items shown) row ≡ item_row g shown row
items_same f g row same items.All = refl
items_same f g row same (items.Listed listed) = map_through unplaced_operand (f row) (g row) same listed

sources_same : (database : Database) (select : Select)
    → source_rows database (unplaced_select select) ≡ source_rows database select
sources_same database select =
    map_through unplaced_source (λ source. database source.table.name) (λ source. database source.table.name)
    (λ source. refl) select.sources

module _ (declared : List Create) (environment : Environment) (select : Select) where
  abbrev worth : Worth Operand
  worth = select_worth declared environment select

  abbrev bare_worth : Worth Operand
  bare_worth = select_worth (map unplaced_create declared) environment (unplaced_select select)

  worth_same : (row : List Value) (operand : Operand) → bare_worth row (unplaced_operand operand) ≡ worth row operand
  worth_same row operand =
      ap (λ (columns : List SourceColumn). operand_value environment columns row (unplaced_operand operand))
      (source_columns_same declared select.sources)
      ∙ operand_same environment (source_columns declared select.sources) row operand

  matches_same : (row : List Value) → meets bare_worth (unplaced_tests select.tests) row
      ≡ meets worth select.tests row
  matches_same row = meets_same unplaced_operand bare_worth worth row (worth_same row) select.tests

  shown_same : (row : List Value) → item_row bare_worth (unplaced_items select.items) row
      ≡ item_row worth select.items row
  shown_same row = items_same bare_worth worth row (worth_same row) select.items

  pub select_same : (database : Database)
      → select_rows (map unplaced_create declared) database environment (unplaced_select select)
      ≡ select_rows declared database environment select
  select_same database =
      λ i. selection (λ row. matches_same row i) (λ row. shown_same row i) (sources_same database select i)
