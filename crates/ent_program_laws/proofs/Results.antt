-- The rows of a SELECT's result can be told.
use Rattle.std.proofs.Common.{◌≡◌, ◌≢◌, ◌≤◌, List, [], ◌∷◌, ◌++◌, map, length, refl, sym, subst, arith}
use Rattle.std.specs.List.{AllByRecursion, filter}
use Rattle.std.proofs.lemmas.List.{length-map}
use Rattle.ent_lists.specs.Sets as set
use Rattle.ent_value.specs.declared.value.Value.{Value}
use Rattle.ent_tree.specs.declared.declaration.Create.{Create}
use Rattle.ent_tree.specs.declared.select.Items.{Items}
use Rattle.ent_tree.specs.declared.select.Items.TheVariants as items
use Rattle.ent_tree.specs.declared.select.Select.{Select}
use Rattle.ent_tree.specs.declared.select.Source.{Source}
use Rattle.ent_print.specs.Reading.{CanBeRead}
use Rattle.ent_print.specs.Spelling.{items_spelling, operand_spelling, select_spelling, sign, source_spelling}
use Rattle.ent_print.specs.Spelling.{comma_list, tests_clause, word}
use Rattle.ent_semantics.specs.Database.{Database, Environment, Name, Rows}
use Rattle.ent_semantics.specs.Selection.{combinations, item_row, meets, select_rows, select_worth, source_rows}
use Rattle.ent_semantics.specs.Term.{source_columns}
use Rattle.ent_text.specs.declared.keyword.Keyword.TheVariants as keywords
use Rattle.ent_text.specs.declared.symbol.Symbol.TheVariants as symbols
use Rattle.ent_history.specs.Parts.{IsRow, IsValue}
use Rattle.ent_sql_laws.specs.Fits.{ItemsFit, SelectFits}
use Rattle.ent_lists.specs.Elements.{In, all_first, all_filtered, all_joined, to_all, of_map, of_all, in_flat}
use Rattle.ent_lists.proofs.Lists.{all_mapped}
use Rattle.ent_semantics.proofs.EachRow.{EachRow, each_listed, to_ascending}
use Rattle.ent_program_laws.proofs.Read.{AreRead, separated_are_read}
use Rattle.ent_program_laws.proofs.Values.{AreValues, HoldsValues, mapped_are_values, operand_is_value}

-- the rows of each table can be told
abbrev pub HoldsRows : Database → Type 0
HoldsRows database = (name : Name) → EachRow IsRow (database name)

-- ---- combinations

nothing_joined : (row others : List Value) → row ++ others ≡ [] → row ≡ []
nothing_joined [] others e = refl
nothing_joined (value ∷ row) others e = cc (e)

abbrev with_others : List (List Value) → List Value → List (List Value)
with_others more row = map (λ others. row ++ others) more

-- a row of the first source, and a combination of the others
of_combination : (rows : Rows) (more : List Rows) (row : List Value) → EachRow IsRow rows
    → AllByRecursion AreValues (combinations more) → In row (combinations (rows ∷ more)) → IsRow row
of_combination rows more row each all at =
    let first = in_flat (with_others (combinations more)) (set.ascending rows) row at in
    let second = of_map (λ others. first.0 ++ others) (combinations more) row first.2 in
    let is = of_all IsRow (set.ascending rows) first.0 (to_ascending IsRow rows each) first.1 in
    let others = of_all AreValues (combinations more) second.0 all second.1 in
    subst IsRow (sym second.2)
    ((λ none. is.0 (nothing_joined first.0 second.0 none)), all_joined IsValue first.0 second.0 is.1 others)

pub combined_values : (sources : List Rows) → AllByRecursion (EachRow IsRow) sources
    → AllByRecursion AreValues (combinations sources)
combined_values [] all = (tt, tt)
combined_values (rows ∷ more) all =
    to_all AreValues (combinations (rows ∷ more)) (λ row at.
    (of_combination rows more row all.0 (combined_values more all.1) at).1)

combined_rows : (sources : List Rows) → 1 ≤ length sources → AllByRecursion (EachRow IsRow) sources
    → AllByRecursion IsRow (combinations sources)
combined_rows [] some all = absurd (omega (arith, some))
combined_rows (rows ∷ more) some all =
    to_all IsRow (combinations (rows ∷ more)) (λ row at.
    of_combination rows more row all.0 (combined_values more all.1) at)

-- ---- what is shown

pub some_mapped : {A B : Type 0} (f : A → B) (xs : List A) → 1 ≤ length xs → map f xs ≢ []
some_mapped f [] some e = absurd (omega (arith, some))
some_mapped f (x ∷ xs) some e = cc (e)

module _ (declared : List Create) (database : Database) (environment : Environment) (rows : HoldsRows database)
    (held : HoldsValues environment) where
  shown_row : (select : Select) (shown : Items) → AreRead (items_spelling shown)
      → ItemsFit shown → (row : List Value) → IsRow row
      → IsRow (item_row (select_worth declared environment select) shown row)
  shown_row select items.All can fits row is = is
  shown_row select (items.Listed listed) can fits row is =
      let worth = select_worth declared environment select row in (
        some_mapped worth listed fits.0,
        mapped_are_values (λ item. AreRead (operand_spelling item)) worth listed
            (operand_is_value environment held (source_columns declared select.sources) row is.1)
            (separated_are_read (sign symbols.Comma) operand_spelling listed can),
      )

  sources_hold : (sources : List Source) → AllByRecursion (EachRow IsRow)
      (map (λ (source : Source). database source.table.name) sources)
  sources_hold [] = tt
  sources_hold (source ∷ more) = (rows source.table.name, sources_hold more)

  pub select_is_told : (select : Select) → AreRead (select_spelling select) → SelectFits select
      → EachRow IsRow (select_rows declared database environment select)
  select_is_told select can fits =
      let worth = select_worth declared environment select in
      let all = combinations (source_rows database select) in
      let many : length (source_rows database select) ≡ length select.sources =
      length-map select.sources (λ (source : Source). database source.table.name) in
      let behind = word keywords.From
      ∷ (comma_list source_spelling select.sources ++ tests_clause select.tests) in
      each_listed IsRow (map (item_row worth select.items) (filter (meets worth select.tests) all))
      (all_mapped IsRow IsRow (item_row worth select.items) (filter (meets worth select.tests) all)
      (shown_row select select.items (all_first CanBeRead (items_spelling select.items) behind can.1)
      fits.0)
      (all_filtered IsRow (meets worth select.tests) all
      (combined_rows (source_rows database select) (omega (arith, many, fits.1.0)) (sources_hold select.sources))))
