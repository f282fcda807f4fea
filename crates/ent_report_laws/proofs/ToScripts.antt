-- The scripts of a history that can be told stand.
use Rattle.std.proofs.Common.{◌≡◌, ◌≤◌, ◌<◌, ◌+◌, ℕ, List, [], ◌∷◌, ◌++◌, length, refl, sym, ap, ◌∙◌, arith}
use Rattle.std.specs.List.{AllByRecursion}
use Rattle.std.proofs.lemmas.List.{append-nil, append_assoc}
use Rattle.ent_tree.specs.declared.script.Script.{Script}
use Rattle.ent_form.specs.Catalogue.{schemas_of}
use Rattle.ent_form.specs.ScriptFaults.{script_faults}
use Rattle.ent_book.specs.Report2.{numbered_script_text, scripts_text}
use Rattle.ent_history.specs.declared.history.History.{History}
use Rattle.ent_history.specs.Draft.{Free, NothingBelowScripts}
use Rattle.ent_history.specs.Scripts.{IsScript, ScriptStands}
use Rattle.ent_history.specs.Stands as stands
use Rattle.ent_report_laws.proofs.Lists.{longer}
use Rattle.ent_report_laws.proofs.Reaching.{Leads, first_piece, stay, to_draft}

abbrev pub with_scripts : History → List Script → History
with_scripts told rest = record told { scripts = told.scripts ++ rest }

pub same_script : (told other : History) (script : Script) → told.opening.tables ≡ other.opening.tables
    → IsScript told script → IsScript other script
same_script told other script e is = record {
  unplaced = is.unplaced;
  fits = is.fits;
  readable = is.readable;
  resolved = ap (λ tables. script_faults (schemas_of tables) script) (sym e) ∙ is.resolved;
}

pub scripts_lead : (told : History) (number : ℕ) (rest : List Script) → number ≡ length told.scripts + 1
    → NothingBelowScripts told → AllByRecursion (IsScript told) rest → length told.scripts + length rest ≤ 10000
    → Leads (record { told = told; due = Free }) (scripts_text number rest)
    (record { told = with_scripts told rest; due = Free })
scripts_lead told number [] e below fit few =
    stay (record { told = told; due = Free }) (record { told = with_scripts told []; due = Free })
    (λ i. record { told = record told { scripts = sym (append-nil told.scripts) i }; due = Free })
scripts_lead told number (script ∷ more) e below fit few =
    first_piece (record { told = told; due = Free }) (record { told = next; due = Free })
    (record { told = with_scripts told (script ∷ more); due = Free }) (numbered_script_text number script)
    (scripts_text (number + 1) more) (stands.Script stand)
    (to_draft (record { told = next; due = Free }) (record { told = with_scripts next more; due = Free })
    (record { told = with_scripts told (script ∷ more); due = Free }) (scripts_text (number + 1) more)
    (λ i. record { told = record told { scripts = append_assoc told.scripts (script ∷ []) more i }; due = Free })
    (scripts_lead next (number + 1) more (omega (arith, e, longer told.scripts script)) (record {
      transactions = below.transactions;
      joint_answers = below.joint_answers;
      tables = below.tables;
    })
    (all_same more fit.1) (omega (arith, few, longer told.scripts script))))
  where
    next : History
    next = record told { scripts = told.scripts ++ script ∷ [] }

    all_same : (scripts : List Script) → AllByRecursion (IsScript told) scripts → AllByRecursion (IsScript next) scripts
    all_same [] fit = tt
    all_same (one ∷ others) fit = (same_script told next one refl fit.0, all_same others fit.1)

    room : length told.scripts < 10000
    room = omega (arith, few)

    stand : ScriptStands (record { told = told; due = Free }) (numbered_script_text number script)
        (record { told = next; due = Free })
    stand = record {
      script = script;
      is_next = record {
        free = refl;
        nothing_below = record {
          transactions = below.transactions;
          joint_answers = below.joint_answers;
          tables = below.tables;
        };
        few = room;
      };
      text_is = ap (λ (n : ℕ). numbered_script_text n script) e;
      is_script = same_script told told script refl fit.0;
      next_is = refl;
    }
