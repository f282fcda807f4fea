-- What is read from the lines in which a report shows a script.
use Rattle.std.specs.Prelude.{◌≡◌, ◌≢◌, ℕ, List, Option, Some, None}
use Rattle.ent_tree.specs.declared.script.Script.{Script}
use Rattle.ent_print.specs.Printing.{script_text}
use Rattle.ent_history.specs.declared.history.History.{History}
use Rattle.ent_history.specs.Scripts.{IsScript}

-- the script that a report can show, and whose text this is; none where it is the text of no such script
abbrev pub IsRead : History → List ℕ → Option Script → Type 0
IsRead told text (Some script) = IsScript told script × (text ≡ script_text script)
IsRead told text None = (script : Script) → IsScript told script → text ≢ script_text script
