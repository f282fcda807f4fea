-- The steps of a walk over two ascending lists of rows, side by side.
use Rattle.std.specs.Prelude.{List, [], ◌∷◌, Option, Some, None, not}
use Rattle.std.specs.List.{filter, list_any}
use Rattle.std.specs.Ordering.{eq_by_cmp}
use Rattle.std.specs.declared.cmp.Ordering.{Ordering}
use Rattle.std.specs.declared.cmp.Ordering.TheVariants.{Less, Equal, Greater}
use Rattle.ent_value.specs.Value.{row_cmp}
use Rattle.ent_value.specs.declared.value.Value.{Value}
use Rattle.ent_feed.specs.declared.difference.Step.{Step}
use Rattle.ent_feed.specs.declared.difference.Step.TheVariants.{Removes, Adds, Keeps}

abbrev pub step_by : Ordering → Step
step_by Less = Removes
step_by Equal = Keeps
step_by Greater = Adds

-- the first row that is left of either list: it stands in the first alone, in the second alone, or in both
abbrev pub next_step : List (List Value) → List (List Value) → Option Step
next_step [] [] = None
next_step [] (row ∷ rows) = Some Adds
next_step (row ∷ rows) [] = Some Removes
next_step (old ∷ olds) (new ∷ news) = Some (step_by (row_cmp old new))

-- the rows of one list that aren't in another
abbrev pub rows_beside : List (List Value) → List (List Value) → List (List Value)
rows_beside rows others = filter (λ row. not (list_any (eq_by_cmp row_cmp row) others)) rows
