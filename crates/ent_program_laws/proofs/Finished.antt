-- Finished books over an input that is read can be reported.
use Rattle.std.proofs.Common.{◌≡◌, ◌<◌, ◌≤◌, ℕ, List, [], length, refl, sym, ap, subst, ◌∙◌, None, Result, Ok}
use Rattle.std.proofs.Common.{Err, AllPairs, Contains}
use Rattle.std.specs.List.{AllByRecursion}
use Rattle.ent_value.specs.Refusal.{◌>>=◌}
use Rattle.ent_tree.specs.declared.declaration.Opening.{Opening}
use Rattle.ent_tree.specs.declared.limits.TheConstants.{MOST_RUNS, MOST_SCRIPTS}
use Rattle.ent_tree.specs.declared.script.Input.{Input}
use Rattle.ent_tree.specs.declared.script.Script.{Script}
use Rattle.ent_semantics.specs.declared.operand.Known.{Known}
use Rattle.ent_semantics.specs.declared.statement.Statement.{Statement}
use Rattle.ent_sql.specs.Reading.{reading}
use Rattle.ent_form.specs.AllFaults.{fault_of, head_of}
use Rattle.ent_form.specs.Catalogue.{schemas_of}
use Rattle.ent_form.specs.Form.{script_in}
use Rattle.ent_form.specs.OpeningFault.{opening_fault}
use Rattle.ent_form.specs.ScriptFaults.{script_faults}
use Rattle.ent_form.specs.declared.catalogue.TableSchema.{TableSchema}
use Rattle.ent_form.specs.declared.fault.FormFault.{FormFault}
use Rattle.ent_form.specs.declared.script.Plain.{Plain}
use Rattle.ent_form.proofs.FirstFault.{headless}
use Rattle.ent_print.specs.Reading.{IsReadable}
use Rattle.ent_sql_laws.specs.Fits.{ScriptFits}
use Rattle.ent_semantics.specs.declared.book.Book.{Book}
use Rattle.ent_semantics.specs.declared.book.Fated.{Fated}
use Rattle.ent_semantics.specs.declared.book.JointAnswer.{JointAnswer}
use Rattle.ent_semantics.specs.declared.book.Member.{Member}
use Rattle.ent_semantics.specs.Database.{Database}
use Rattle.ent_book.specs.Report2.{report_2_text}
use Rattle.ent_protocol.specs.Reached.{IsFinished, IsFinishedBook, IsReached, book_of, committed_joints, scripts_of}
use Rattle.ent_protocol.specs.State.{State, Submitted}
use Rattle.ent_protocol_laws.specs.Attempts.{AskForMost, AsksForRun}
use Rattle.ent_protocol_laws.specs.Numbered.{from_by_number}
use Rattle.ent_protocol_laws.specs.Fates.{HaveFates}
use Rattle.ent_headline.specs.Resolved.{resolved_forms}
use Rattle.ent_lists.specs.Elements.{In, all_map, contains_in, in_contains, of_all, of_filter, to_all, to_map}
use Rattle.ent_program_laws.specs.Answered.{CanRun}
use Rattle.ent_report_laws.specs.Read.{IsOpeningRead}
use Rattle.ent_program_laws.specs.Reportable.{CanBeReported, CountsRuns}

-- ---- scripts

no_fault : (form : Result Plain FormFault) (made : List (Statement Known))
    → (form >>= λ plain. Ok plain.statements) ≡ Ok made → fault_of form ≡ None
no_fault (Ok plain) made e = refl
no_fault (Err fault) made e = cc (e)

-- what other laws say of scripts, and of states that are reached
pub record Laws : Type 0 where
  pub first : (tables : List TableSchema) (script : Script)
      → fault_of (script_in tables script) ≡ head_of (script_faults tables script)
  pub resolved : (s : State) (own : Submitted) → IsReached resolved_forms s → Contains s.submitted own
      → resolved_forms.resolve s.opening own.script ≡ Ok own.form
  pub rise : (s : State) (joint : JointAnswer) → IsReached resolved_forms s → Contains s.joints joint
      → AllPairs (λ (first second : Member). first.tx < second.tx) joint.members
  pub runs : (s : State) (most : ℕ) (fated : Fated) → IsReached resolved_forms s
      → AllByRecursion AsksForRun s.submitted → AskForMost most s → Contains s.fates fated
      → CountsRuns most fated.fate
  pub fates : (s : State) → IsFinished resolved_forms s → HaveFates (book_of s)

-- scripts within the limits of an input, of words that can stand in a text
abbrev pub AreReadable : List Script → Type 0
AreReadable scripts = (script : Script) → Contains scripts script → ScriptFits script × IsReadable script

pub can_run : (opening : Opening) (scripts : List Script)
    → AllByRecursion (λ script. script_faults (schemas_of opening.tables) script ≡ []) scripts → AreReadable scripts
    → AllByRecursion (CanRun opening.tables) scripts
can_run opening scripts faultless readable =
    to_all (CanRun opening.tables) scripts (λ script at.
    let own = readable script (in_contains scripts script at) in
    record {
      resolved = of_all (λ (s : Script). script_faults (schemas_of opening.tables) s ≡ []) scripts script faultless at;
      fits = own.0;
      readable = own.1;
    })

module _ (laws : Laws) (s : State) (finished : IsFinished resolved_forms s)
    (readable : AreReadable (scripts_of s)) where
  abbrev script_of : Submitted → Script
  script_of own = own.script

  its : (own : Submitted) → In own s.submitted → ScriptFits own.script × IsReadable own.script
  its own at = readable own.script (in_contains (scripts_of s) own.script (to_map script_of s.submitted own at))

  no_faults : (own : Submitted) → In own s.submitted → script_faults (schemas_of s.opening.tables) own.script ≡ []
  no_faults own at =
      headless (script_faults (schemas_of s.opening.tables) own.script)
      (sym (laws.first (schemas_of s.opening.tables) own.script)
      ∙ no_fault (script_in (schemas_of s.opening.tables) own.script) own.form
      (laws.resolved s own finished.reached (in_contains s.submitted own at)))

  faultless : AllByRecursion (λ script. script_faults (schemas_of s.opening.tables) script ≡ []) (scripts_of s)
  faultless =
      all_map script_of (λ script. script_faults (schemas_of s.opening.tables) script ≡ []) s.submitted
      (to_all (λ (own : Submitted). script_faults (schemas_of s.opening.tables) own.script ≡ []) s.submitted no_faults)

  asked : AllByRecursion AsksForRun s.submitted
  asked = to_all AsksForRun s.submitted (λ own at. (its own at).0.0)

  few_runs : AskForMost MOST_RUNS s
  few_runs =
      to_all (λ (own : Submitted). own.script.within ≤ MOST_RUNS) s.submitted (λ own at. (its own at).0.1)

  runs : AllByRecursion (λ fated. CountsRuns MOST_RUNS fated.fate) (book_of s).fates
  runs =
      to_all (λ (fated : Fated). CountsRuns MOST_RUNS fated.fate) (book_of s).fates (λ fated at.
      laws.runs s MOST_RUNS fated finished.reached asked few_runs
      (in_contains s.fates fated (from_by_number (λ (f : Fated). f.tx) s.fates fated at)))

  rising : (joint : JointAnswer) → Contains (committed_joints s) joint
      → AllPairs (λ (first second : Member). first.tx < second.tx) joint.members
  rising joint c =
      laws.rise s joint finished.reached
      (in_contains s.joints joint (of_filter _ s.joints joint (contains_in (committed_joints s) joint c)).0)

  pub can_be_reported : IsOpeningRead s.opening → opening_fault s.opening ≡ None
      → length (scripts_of s) ≤ MOST_SCRIPTS → length (report_2_text (book_of s)) ≤ 1099511627776
      → CanBeReported (book_of s)
  can_be_reported opening opened few short = record {
    opening = opening;
    faultless = opened;
    few = few;
    scripts = can_run s.opening (scripts_of s) faultless readable;
    fates = laws.fates s finished;
    runs = runs;
    rising = rising;
    short = short;
  }

pub finished_can_be_reported : Laws → (input : Input) (book : Book Database)
    → IsOpeningRead input.opening → opening_fault input.opening ≡ None
    → AreReadable input.scripts → length input.scripts ≤ MOST_SCRIPTS
    → IsFinishedBook resolved_forms input.opening input.scripts book
    → length (report_2_text book) ≤ 1099511627776 → CanBeReported book
finished_can_be_reported laws input book opening opened readable few is short =
    let s = is.last in
    subst CanBeReported (sym is.is)
    (can_be_reported laws s is.finished (subst AreReadable (sym is.of_scripts) readable)
    (subst IsOpeningRead (sym is.of_opening) opening)
    (subst (λ (o : Opening). opening_fault o ≡ None) (sym is.of_opening) opened)
    (subst (λ (scripts : List Script). length scripts ≤ MOST_SCRIPTS) (sym is.of_scripts) few)
    (subst (λ (b : Book Database). length (report_2_text b) ≤ 1099511627776) is.is short))

-- a text that says an input says the opening and the scripts of its books
pub book_is_read : (text : List ℕ) (input : Input) (book : Book Database) → reading text ≡ Ok input
    → IsFinishedBook resolved_forms input.opening input.scripts book
    → reading text ≡ Ok (record { opening = book.opening; scripts = book.scripts })
book_is_read text input book reads is =
    let opening : input.opening ≡ book.opening =
    sym is.of_opening ∙ ap (λ (b : Book Database). b.opening) (sym is.is) in
    let scripts : input.scripts ≡ book.scripts =
    sym is.of_scripts ∙ ap (λ (b : Book Database). b.scripts) (sym is.is) in
    reads ∙ (λ i. Ok (record { opening = opening i; scripts = scripts i }))
