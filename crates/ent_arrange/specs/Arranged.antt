-- Inputs with their scripts in another order.
use Rattle.std.specs.Prelude.{◌≡◌, ℕ, List, Some, Ok, map, slice_get}
use Rattle.std.specs.List.Sorted.{IsPermutation}
use Rattle.ent_tree.specs.declared.script.Input.{Input}
use Rattle.ent_tree.specs.Places.{unplaced_script}
use Rattle.ent_sql.specs.Reading.{reading}

-- the opening of an input, places included, and its scripts in another order, places aside
pub record IsArranged (input again : Input) : Type 0 where
  pub opening : again.opening ≡ input.opening
  pub scripts : IsPermutation (map unplaced_script input.scripts) (map unplaced_script again.scripts)

-- some text is read as this input
abbrev pub WasRead : Input → Type 0
WasRead input = (text : List ℕ) × (reading text ≡ Ok input)

-- one list has the elements of another at these indices
abbrev pub ArePicked : {X : Type 0} → List X → List ℕ → List X → Type 0
ArePicked xs indices ys = map Some ys ≡ map (slice_get xs) indices
