-- Inputs of one script.
use Rattle.std.specs.Prelude.{◌≡◌, [], ◌∷◌, map}
use Rattle.ent_tree.specs.declared.script.Input.{Input}
use Rattle.ent_tree.specs.declared.script.Script.{Script}
use Rattle.ent_tree.specs.Places.{unplaced_script}

-- the input of no table and this script alone, places aside
abbrev pub IsAlone : Script → Input → Type 0
IsAlone script input =
    (input.opening ≡ record { tables = []; rows = [] })
    × (map unplaced_script input.scripts ≡ unplaced_script script ∷ [])
