-- What stands in the printed text of a script.
use Rattle.std.specs.Prelude.{◌≡◌, ◌≢◌, ℕ, List, Option, Some, None}
use Rattle.ent_tree.specs.declared.script.Script.{Script}
use Rattle.ent_tree.specs.Places.{unplaced_script}
use Rattle.ent_print.specs.Printing.{script_text}
use Rattle.ent_print.specs.Reading.{IsReadable}
use Rattle.ent_sql_laws.specs.Fits.{ScriptFits}

-- a script that its printed text says: without places, within the limits, its names, texts and numbers such as can
-- stand in a text
pub record IsPrintable (script : Script) : Type 0 where
  pub unplaced : unplaced_script script ≡ script
  pub fits : ScriptFits script
  pub readable : IsReadable script

-- the one such script whose text this can be; none where it is that of no such script
abbrev pub IsOnlyOne : List ℕ → Option Script → Type 0
IsOnlyOne text (Some only) =
    IsPrintable only × ((script : Script) → IsPrintable script → text ≡ script_text script → script ≡ only)
IsOnlyOne text None = (script : Script) → IsPrintable script → text ≢ script_text script
