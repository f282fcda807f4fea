-- What a SELECT gives: item rows over all combinations of one row of each source that meet every test.
use Rattle.std.specs.Prelude.{Bool, not, List, [], ◌∷◌, ◌++◌, map}
use Rattle.std.specs.List.{list_all, filter, flat_map}
use Rattle.std.specs.Ordering.{is_eq, is_lt, is_le, is_gt, is_ge}
use Rattle.std.specs.declared.cmp.Ordering.{Ordering}
use Rattle.ent_lists.specs.Sets as set
use Rattle.ent_value.specs.Value.{value_cmp}
use Rattle.ent_value.specs.declared.value.Value.{Value}
use Rattle.ent_tree.specs.declared.declaration.Create.{Create}
use Rattle.ent_tree.specs.declared.operand.Comparison.{Comparison}
use Rattle.ent_tree.specs.declared.operand.Comparison.TheVariants as comparisons
use Rattle.ent_tree.specs.declared.operand.Operand.{Operand}
use Rattle.ent_tree.specs.declared.operand.Test.{Test}
use Rattle.ent_tree.specs.declared.select.Items.{Items}
use Rattle.ent_tree.specs.declared.select.Items.TheVariants as items
use Rattle.ent_tree.specs.declared.select.Select.{Select}
use Rattle.ent_semantics.specs.Database.{Rows, Database, Environment}
use Rattle.ent_semantics.specs.Term.{Worth, operand_value, source_columns}

-- one row of each source, in all ways, sources side by side
abbrev pub combinations : List Rows → List (List Value)
combinations [] = [] ∷ []
combinations (rows ∷ more) = flat_map (λ row. map (λ others. row ++ others) (combinations more)) (set.ascending rows)

abbrev pub compares : Comparison → Ordering → Bool
compares comparisons.Equal order = is_eq order
compares comparisons.NotEqual order = not (is_eq order)
compares comparisons.Less order = is_lt order
compares comparisons.LessOrEqual order = is_le order
compares comparisons.Greater order = is_gt order
compares comparisons.GreaterOrEqual order = is_ge order

-- a test holds where each operand has this value
abbrev pub holds : {A : Type 0} → (A → Value) → Test A → Bool
holds value test = compares test.comparison (value_cmp (value test.left) (value test.right))

-- a row meets every test of a WHERE
abbrev pub meets : {A : Type 0} → Worth A → List (Test A) → List Value → Bool
meets worth tests row = list_all (holds (worth row)) tests

-- what is shown of each combination that matches
abbrev pub selection : (List Value → Bool) → (List Value → List Value) → List Rows → Rows
selection matches shown sources = set.from_list (map shown (filter matches (combinations sources)))

-- what is shown of a row: all of it, or the items
abbrev pub item_row : Worth Operand → Items → List Value → List Value
item_row worth items.All row = row
item_row worth (items.Listed listed) row = map (worth row) listed

-- the rows of each source
abbrev pub source_rows : Database → Select → List Rows
source_rows database select = map (λ source. database source.table.name) select.sources

-- what the operands of a SELECT are worth over a combination of its sources' rows
abbrev pub select_worth : List Create → Environment → Select → Worth Operand
select_worth declared environment select = operand_value environment (source_columns declared select.sources)

-- the result of a SELECT
abbrev pub select_rows : List Create → Database → Environment → Select → Rows
select_rows declared database environment select =
    let worth = select_worth declared environment select in
    selection (meets worth select.tests) (item_row worth select.items) (source_rows database select)
