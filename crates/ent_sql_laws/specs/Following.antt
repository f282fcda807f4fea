-- Scripts that are printed behind a text.
use Rattle.std.specs.Prelude.{◌≡◌, ℕ, List, ◌∷◌, ◌++◌, map, Contains, Ok}
use Rattle.std.specs.List.{flat_map}
use Rattle.ent_tree.specs.declared.declaration.Opening.{Opening}
use Rattle.ent_tree.specs.declared.script.Script.{Script}
use Rattle.ent_tree.specs.declared.script.Input.{Input}
use Rattle.ent_tree.specs.Places.{unplaced_script}
use Rattle.ent_sql.specs.Reading.{reading}
use Rattle.ent_print.specs.Printing.{script_text}

-- the script is one of those that some text says
abbrev pub WasRead : Script → Type 0
WasRead script = (text : List ℕ) × (input : Input) × (reading text ≡ Ok input) × Contains input.scripts script

-- the texts of the scripts, one behind the other
abbrev pub scripts_text : List Script → List ℕ
scripts_text = flat_map script_text

-- the text, and the texts of the scripts behind a line end
abbrev pub text_with : List ℕ → List Script → List ℕ
text_with front scripts = front ++ 10 ∷ scripts_text scripts

-- the opening and the scripts of the one input, and behind them these scripts, places aside
abbrev pub IsFollowedBy : Input → List Script → Input → Type 0
IsFollowedBy first scripts whole =
    (whole.opening ≡ first.opening)
    × ((others : List Script) × (whole.scripts ≡ first.scripts ++ others)
    × (map unplaced_script others ≡ map unplaced_script scripts))

-- this opening, and these scripts, places aside
abbrev pub HasScripts : Opening → List Script → Input → Type 0
HasScripts opening scripts input =
    (input.opening ≡ opening) × (map unplaced_script input.scripts ≡ map unplaced_script scripts)
