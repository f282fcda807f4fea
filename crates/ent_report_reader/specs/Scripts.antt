-- The line above a script.
use Rattle.std.specs.Prelude.{◌≡◌, ℕ, ◌+◌, List, length}
use Rattle.ent_history.specs.ScriptLines.{script_text}
use Rattle.ent_history.specs.Draft.{Draft}
use Rattle.ent_history.specs.Parts.{IsNumber}
use Rattle.ent_history.specs.Scripts.{ScriptIsNext}

-- a script's number and how many lines follow
abbrev pub IsNumberedLine : List ℕ → ℕ × ℕ → Type 0
IsNumberedLine text x = (text ≡ script_text x.0 x.1) × IsNumber x.0 × IsNumber x.1

-- of the next script, where one can stand next, how many lines follow
abbrev pub IsScriptLine : Draft → List ℕ → ℕ → Type 0
IsScriptLine draft text count = ScriptIsNext draft × IsNumberedLine text (length draft.told.scripts + 1, count)
