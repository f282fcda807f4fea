-- A script with its lines, as one thing.
use Rattle.std.specs.Prelude.{◌≡◌, ◌≢◌, ◌<◌, ◌+◌, ℕ, List, [], ◌∷◌, ◌++◌, length}
use Rattle.ent_tree.specs.declared.limits.TheConstants.{MOST_SCRIPTS}
use Rattle.ent_tree.specs.declared.script.Script.{Script}
use Rattle.ent_tree.specs.Places.{unplaced_script}
use Rattle.ent_print.specs.Reading.{IsReadable}
use Rattle.ent_form.specs.Catalogue.{schemas_of}
use Rattle.ent_form.specs.ScriptFaults.{script_faults}
use Rattle.ent_sql_laws.specs.Fits.{ScriptFits}
use Rattle.ent_book.specs.Report.{line}
use Rattle.ent_book.specs.Report2.{line_count, numbered_script_text}
use Rattle.ent_history.specs.declared.history.History.{History}
use Rattle.ent_history.specs.Draft.{Draft, Free, NothingBelowScripts}

-- a script that a report can show: without places, within the limits, its names, texts and numbers such as can stand
-- in a text, and without a fault of form over the tables
pub record IsScript (told : History) (script : Script) : Type 0 where
  pub unplaced : unplaced_script script ≡ script
  pub fits : ScriptFits script
  pub readable : IsReadable script
  pub resolved : script_faults (schemas_of told.opening.tables) script ≡ []

-- where a script can stand: nothing is due, nothing below the scripts stands yet, and there are fewer than 10,000
pub record ScriptIsNext (draft : Draft) : Type 0 where
  pub free : draft.due ≡ Free
  pub nothing_below : NothingBelowScripts draft.told
  pub few : length draft.told.scripts < MOST_SCRIPTS

-- A script: `script`, its number, how many lines it has, and these, as it is printed.
pub record ScriptStands (draft : Draft) (text : List ℕ) (next : Draft) : Type 0 where
  pub script : Script
  pub is_next : ScriptIsNext draft
  pub text_is : text ≡ numbered_script_text (length draft.told.scripts + 1) script
  pub is_script : IsScript draft.told script
  pub next_is : next ≡ record {
    told = record draft.told { scripts = draft.told.scripts ++ script ∷ [] };
    due = Free;
  }

-- The text breaks off inside a script: its `script` line stands, and below it stand fewer lines than it says, which
-- begin some script of that many lines that could stand here. A last line without its end doesn't count.
pub record ScriptBreaksOff (draft : Draft) (rest : List ℕ) : Type 0 where
  pub script : Script
  pub lines : List ℕ
  pub missing : List ℕ
  pub unended : List ℕ
  pub is_next : ScriptIsNext draft
  pub is_script : IsScript draft.told script
  pub begins : line lines ++ missing ≡ numbered_script_text (length draft.told.scripts + 1) script
  pub some_missing : missing ≢ []
  pub parts : rest ≡ line lines ++ unended
  pub no_line : line_count unended ≡ 0
