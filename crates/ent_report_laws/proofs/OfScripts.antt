-- The scripts that a text tells can be told.
use Rattle.std.proofs.Common.{◌≡◌, ℕ, List, [], ◌∷◌, ◌++◌, sym, subst}
use Rattle.std.specs.List.{AllByRecursion}
use Rattle.ent_tree.specs.Places.{unplaced_script}
use Rattle.ent_tree.specs.declared.declaration.Create.{Create}
use Rattle.ent_tree.specs.declared.script.Script.{Script as Scripted}
use Rattle.ent_print.specs.Reading.{IsReadable}
use Rattle.ent_form.specs.Catalogue.{schemas_of}
use Rattle.ent_form.specs.ScriptFaults.{script_faults}
use Rattle.ent_sql_laws.specs.Fits.{ScriptFits}
use Rattle.ent_history.specs.declared.history.History.{History}
use Rattle.ent_history.specs.Draft.{Draft, Ended, blank}
use Rattle.ent_history.specs.Scripts.{IsScript}
use Rattle.ent_history.specs.Stands.{Stands, Heading, Opening, OpeningRow, Script, Tx, Answer, AnswerRow, Joint}
use Rattle.ent_history.specs.Stands.{Member, Table, TableRow, End, AllStand, Tells}
use Rattle.ent_lists.specs.Elements.{all_by, all_joined}

-- what is asked of a script over these tables
record IsOver (creates : List Create) (script : Scripted) : Type 0 where
  unplaced : unplaced_script script ≡ script
  fits : ScriptFits script
  readable : IsReadable script
  resolved : script_faults (schemas_of creates) script ≡ []

abbrev AreOver : Draft → Type 0
AreOver draft = AllByRecursion (IsOver draft.told.opening.tables) draft.told.scripts

over_kept : (draft : Draft) (piece : List ℕ) (next : Draft) → AreOver draft → Stands draft piece next → AreOver next
over_kept draft piece next over (Heading s) = subst AreOver (sym s.next_is) over
over_kept draft piece next over (Opening s) =
    subst AreOver (sym s.next_is)
    (subst (AllByRecursion (IsOver (draft.told.opening.tables ++ s.create ∷ []))) (sym s.no_scripts) tt)
over_kept draft piece next over (OpeningRow s) = subst AreOver (sym s.next_is) over
over_kept draft piece next over (Script s) =
    subst AreOver (sym s.next_is)
    (all_joined (IsOver draft.told.opening.tables) draft.told.scripts (s.script ∷ []) over (
      record {
        unplaced = s.is_script.unplaced;
        fits = s.is_script.fits;
        readable = s.is_script.readable;
        resolved = s.is_script.resolved;
      },
      tt,
    ))
over_kept draft piece next over (Tx s) = subst AreOver (sym s.next_is) over
over_kept draft piece next over (Answer s) = subst AreOver (sym s.next_is) over
over_kept draft piece next over (AnswerRow s) = subst AreOver (sym s.next_is) over
over_kept draft piece next over (Joint s) = subst AreOver (sym s.next_is) over
over_kept draft piece next over (Member s) = subst AreOver (sym s.next_is) over
over_kept draft piece next over (Table s) = subst AreOver (sym s.next_is) over
over_kept draft piece next over (TableRow s) = subst AreOver (sym s.next_is) over
over_kept draft piece next over (End s) = subst AreOver (sym s.next_is) over

all_over : (pieces : List (List ℕ)) (draft next : Draft) → AreOver draft → AllStand draft pieces next → AreOver next
all_over [] draft next over e = subst AreOver e over
all_over (piece ∷ pieces) draft next over stand =
    all_over pieces stand.0 next (over_kept draft piece stand.0 over stand.1) stand.2

pub scripts_are_told : (text : List ℕ) (history : History) → Tells text history
    → AllByRecursion (IsScript history) history.scripts
scripts_are_told text history tells =
    all_by (IsOver history.opening.tables) (IsScript history) history.scripts
    (λ script is. record {
      unplaced = is.unplaced;
      fits = is.fits;
      readable = is.readable;
      resolved = is.resolved;
    })
    (all_over tells.0 blank (record { told = history; due = Ended }) tt tells.2)
