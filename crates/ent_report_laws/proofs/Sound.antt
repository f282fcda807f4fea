-- What a report tells is formed.
use Rattle.std.proofs.Common.{◌≡◌, ℕ, true, false, List, [], ◌∷◌, refl, sym, ap, subst, ◌∙◌, None}
use Rattle.std.proofs.Common.{Result, Ok, Err, Contains, map}
use Rattle.ent_lists.specs.Sets as set
use Rattle.ent_tree.specs.declared.declaration.Create.{Create}
use Rattle.ent_tree.specs.declared.declaration.Opening.{Opening as Opened}
use Rattle.ent_tree.specs.declared.script.Script.{Script as Scripted}
use Rattle.ent_tree.specs.declared.script.Statement.{Statement}
use Rattle.ent_semantics.specs.Database.{Name, opening_database}
use Rattle.ent_semantics.specs.Uses.{changes}
use Rattle.ent_form.specs.AllFaults.{fault_of, head_of}
use Rattle.ent_form.specs.Catalogue.{schemas_of}
use Rattle.ent_form.specs.Form.{script_in}
use Rattle.ent_form.specs.OpeningFault.{opening_fault}
use Rattle.ent_form.specs.ScriptFaults.{script_faults}
use Rattle.ent_form.specs.declared.catalogue.TableSchema.{TableSchema}
use Rattle.ent_form.specs.declared.fault.FormFault.{FormFault}
use Rattle.ent_form.specs.declared.script.Plain.{Plain}
use Rattle.ent_history.specs.declared.history.History.{History}
use Rattle.ent_history.specs.Told.{joint_answer_of}
use Rattle.ent_history.specs.Draft.{Draft, Ended, blank}
use Rattle.ent_history.specs.Stands.{AllStand, Tells}
use Rattle.ent_lists.specs.Elements.{contains_in, of_all, pairs_index}
use Rattle.ent_history.specs.Account.{accounts}
use Rattle.ent_history.specs.Formed.{IsFormed, is_declared}
use Rattle.ent_report_laws.proofs.Answered.{all_answered}
use Rattle.ent_report_laws.proofs.Faultless.{opening_faultless}
use Rattle.ent_report_laws.proofs.Jointly.{have_members, members_rise}
use Rattle.ent_report_laws.proofs.Kept.{IsAll, IsSound, blank_sound, sound_kept}
use Rattle.ent_report_laws.proofs.Shown.{Ascend, all_shown, ascending_rows, shown_once}

all_sound : (pieces : List (List ℕ)) (draft next : Draft) → IsSound draft → AllStand draft pieces next → IsSound next
all_sound [] draft next so e = subst IsSound e so
all_sound (piece ∷ pieces) draft next so stand =
    all_sound pieces stand.0 next (sound_kept draft piece stand.0 so stand.1) stand.2

pub told_sound : (text : List ℕ) (history : History) → Tells text history
    → IsSound (record { told = history; due = Ended })
told_sound text history tells = all_sound tells.0 blank (record { told = history; due = Ended }) blank_sound tells.2

pub told_opening_faultless : (text : List ℕ) (history : History) → Tells text history
    → opening_fault history.opening ≡ None
told_opening_faultless text history tells =
    opening_faultless history.opening (told_sound text history tells).opened

-- a script without faults has a form
no_fault : {A : Type 0} (form : Result A FormFault) → fault_of form ≡ None → (plain : A) × (form ≡ Ok plain)
no_fault (Ok plain) e = (plain, refl)
no_fault (Err fault) e = cc (e)

-- what resolving tells
pub record Laws : Type 0 where
  pub first : (tables : List TableSchema) (script : Scripted)
      → fault_of (script_in tables script) ≡ head_of (script_faults tables script)
  pub opens : (opening : Opened) → opening_fault opening ≡ None → (name : Name)
      → is_declared opening.tables name ≡ false → opening_database opening name ≡ set.empty
  pub within : (creates : List Create) (script : Scripted) (plain : Plain)
      → script_in (schemas_of creates) script ≡ Ok plain → (statement : Statement)
      → Contains script.statements statement → (name : Name) → changes statement name ≡ true
      → is_declared creates name ≡ true

module _ (laws : Laws) (history : History) (so : IsSound (record { told = history; due = Ended })) where
  all : IsAll history
  all = so.ended refl

  form_of : (script : Scripted) → Contains history.scripts script
      → (plain : Plain) × (script_in (schemas_of history.opening.tables) script ≡ Ok plain)
  form_of script c =
      no_fault (script_in (schemas_of history.opening.tables) script)
      (laws.first (schemas_of history.opening.tables) script
      ∙ ap head_of (of_all (λ script. script_faults (schemas_of history.opening.tables) script ≡ []) history.scripts
      script so.resolved (contains_in history.scripts script c)))

  pub sound_formed : IsFormed history
  sound_formed = record {
    told = all.transactions.each;
    answers = λ account c. all_answered 1 history.scripts history.transactions so.answered all.transactions.answered
        account (contains_in (accounts history) account c);
    some = λ joint c. have_members history.joint_answers so.joint joint
        (contains_in (map joint_answer_of history.joint_answers) joint c);
    rising = λ joint c. members_rise history.joint_answers so.joint joint
        (contains_in (map joint_answer_of history.joint_answers) joint c);
    shown = λ name e.
        sym (all_shown history.opening.tables history.tables so.shown all.tables name) ∙ e;
    once = pairs_index _ history.tables (shown_once history.opening.tables history.tables so.shown so.opened.apart);
    ascending = λ shown c. ascending_rows shown.rows
        (of_all Ascend history.tables shown so.ascend (contains_in history.tables shown c));
    opens = laws.opens history.opening (opening_faultless history.opening so.opened);
    within = λ script c. let form = form_of script c in
        laws.within history.opening.tables script form.0 form.1;
  }
