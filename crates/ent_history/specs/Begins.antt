-- Lines that begin the text of a script.
use Rattle.std.specs.Prelude.{◌≡◌, ◌≢◌, ℕ, ◌⊎◌, List, [], ◌++◌, codes}
use Rattle.std.specs.Fmt.{decimal}
use Rattle.ent_tree.specs.declared.script.Script.{Script}
use Rattle.ent_print.specs.Printing.{script_text}
use Rattle.ent_book.specs.Report.{line}
use Rattle.ent_book.specs.Report2.{line_count}
use Rattle.ent_history.specs.declared.history.History.{History}
use Rattle.ent_history.specs.Scripts.{IsScript}

-- the line above the lines of a script: its number, and how many they are
abbrev pub script_line : ℕ → ℕ → List ℕ
script_line number count = line (codes "script " ++ (decimal number ++ (codes " " ++ decimal count)))

-- nothing, or a text whose last line is ended
abbrev pub HasWholeLines : List ℕ → Type 0
HasWholeLines text = (text ≡ []) ⊎ ((front : List ℕ) × (text ≡ line front))

-- whole lines that begin the text of some script of so many lines that the report can show, and aren't all of it
pub record BeginsScript (told : History) (lines : List ℕ) (count : ℕ) : Type 0 where
  pub script : Script
  pub missing : List ℕ
  pub whole : HasWholeLines lines
  pub is_script : IsScript told script
  pub begins : lines ++ missing ≡ script_text script
  pub some_missing : missing ≢ []
  pub counted : line_count (script_text script) ≡ count
