-- The rows of a SELECT's result have values with the property.
use Rattle.std.proofs.Common.{ℤ, List, [], ◌∷◌, ◌++◌, map, sym, subst}
use Rattle.std.specs.List.{AllByRecursion, filter}
use Rattle.ent_lists.specs.Sets as set
use Rattle.ent_value.specs.declared.value.Value.{Value}
use Rattle.ent_value.specs.declared.value.Value.TheVariants.{Int}
use Rattle.ent_tree.specs.declared.declaration.Create.{Create}
use Rattle.ent_tree.specs.declared.select.Items.{Items}
use Rattle.ent_tree.specs.declared.select.Items.TheVariants as items
use Rattle.ent_tree.specs.declared.select.Select.{Select}
use Rattle.ent_tree.specs.declared.select.Source.{Source}
use Rattle.ent_print.specs.Spelling.{comma_list, items_spelling, operand_spelling, select_spelling, sign}
use Rattle.ent_print.specs.Spelling.{source_spelling, tests_clause, word}
use Rattle.ent_text.specs.declared.keyword.Keyword.TheVariants as keywords
use Rattle.ent_text.specs.declared.symbol.Symbol.TheVariants as symbols
use Rattle.ent_semantics.specs.Database.{Database, Environment, Rows}
use Rattle.ent_semantics.specs.Selection.{combinations, item_row, meets, select_rows, select_worth, source_rows}
use Rattle.ent_semantics.specs.Term.{source_columns}
use Rattle.ent_lists.specs.Elements.{In, all_first, all_filtered, all_joined, in_flat, of_all, of_map, to_all}
use Rattle.ent_semantics.proofs.EachRow.{EachRow, each_listed, to_ascending}
use Rattle.ent_program_laws.specs.Values.{BindsValues, HoldsValues, IsWritten}
use Rattle.ent_program_laws.proofs.Worth.{mapped_have, operand_has}
use Rattle.ent_program_laws.proofs.Written.{separated_are_written}

module _ (P : Value → Type 0) (numbers : (number : ℤ) → P (Int number)) where
  -- a row has such values
  abbrev Has : List Value → Type 0
  Has row = AllByRecursion P row

  -- ---- combinations

  abbrev with_others : List (List Value) → List Value → List (List Value)
  with_others more row = map (λ others. row ++ others) more

  -- a row of the first source, and a combination of the others
  of_combination : (rows : Rows) (more : List Rows) (row : List Value) → EachRow Has rows
      → AllByRecursion Has (combinations more) → In row (combinations (rows ∷ more)) → Has row
  of_combination rows more row each all at =
      let first = in_flat (with_others (combinations more)) (set.ascending rows) row at in
      let second = of_map (λ others. first.0 ++ others) (combinations more) row first.2 in
      let here = of_all Has (set.ascending rows) first.0 (to_ascending Has rows each) first.1 in
      let others = of_all Has (combinations more) second.0 all second.1 in
      subst Has (sym second.2) (all_joined P first.0 second.0 here others)

  combined_have : (sources : List Rows) → AllByRecursion (EachRow Has) sources
      → AllByRecursion Has (combinations sources)
  combined_have [] all = (tt, tt)
  combined_have (rows ∷ more) all =
      to_all Has (combinations (rows ∷ more)) (λ row at.
      of_combination rows more row all.0 (combined_have more all.1) at)

  -- ---- what is shown

  shown_have : (shown : List Value → List Value) (rows : List (List Value))
      → ((row : List Value) → Has row → Has (shown row)) → AllByRecursion Has rows
      → AllByRecursion Has (map shown rows)
  shown_have shown [] each all = tt
  shown_have shown (row ∷ rows) each all = (each row all.0, shown_have shown rows each all.1)

  module _ (declared : List Create) (database : Database) (environment : Environment)
      (holds : HoldsValues P database) (binds : BindsValues P environment) where
    item_row_has : (select : Select) (shown : Items) → AllByRecursion (IsWritten P) (items_spelling shown)
        → (row : List Value) → Has row → Has (item_row (select_worth declared environment select) shown row)
    item_row_has select items.All writes row has = has
    item_row_has select (items.Listed listed) writes row has =
        mapped_have P numbers (λ item. AllByRecursion (IsWritten P) (operand_spelling item))
        (select_worth declared environment select row) listed
        (operand_has P numbers environment binds (source_columns declared select.sources) row has)
        (separated_are_written (IsWritten P) (sign symbols.Comma) operand_spelling listed writes)

    sources_have : (sources : List Source) → AllByRecursion (EachRow Has)
        (map (λ (source : Source). database source.table.name) sources)
    sources_have [] = tt
    sources_have (source ∷ more) = (holds source.table.name, sources_have more)

    pub select_has : (select : Select) → AllByRecursion (IsWritten P) (select_spelling select)
        → EachRow Has (select_rows declared database environment select)
    select_has select writes =
        let worth = select_worth declared environment select in
        let all = combinations (source_rows database select) in
        let behind = word keywords.From
        ∷ (comma_list source_spelling select.sources ++ tests_clause select.tests) in
        let shown = item_row worth select.items in
        each_listed Has (map shown (filter (meets worth select.tests) all))
        (shown_have shown (filter (meets worth select.tests) all)
        (item_row_has select select.items
        (all_first (IsWritten P) (items_spelling select.items) behind writes.1))
        (all_filtered Has (meets worth select.tests) all
        (combined_have (source_rows database select) (sources_have select.sources))))
